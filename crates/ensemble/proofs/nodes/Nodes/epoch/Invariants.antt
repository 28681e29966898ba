use Rattle.std.proofs.Common.{◌≡◌, take}
use Rattle.std.specs.List.{fold}
use Rattle.hosts.specs.Shown.{epoch_of}
use Rattle.ensemble.specs.Shown.{later_epoch}
use Rattle.ensemble.proofs.nodes.Nodes.epoch.Given as goal

abbrev pub invariant-loop-host : goal.invariant-loop-host
invariant-loop-host l = l.latest ≡ fold (λ latest h. later_epoch latest (epoch_of h.slot)) 1 (take l.host-index l.self.executors)
