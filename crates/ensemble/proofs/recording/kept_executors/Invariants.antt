use Rattle.std.proofs.Common.{◌≡◌, map, take}
use Rattle.ensemble.specs.Kept.{kept_of_host}
use Rattle.ensemble.proofs.recording.kept_executors.Given as goal

abbrev pub invariant-loop-host : goal.invariant-loop-host
invariant-loop-host l = l.kept.items ≡ map kept_of_host (take l.host-index l.executors)
