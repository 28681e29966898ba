use Rattle.std.proofs.Common.{◌≡◌}
use Rattle.view_change.specs.Promises.{best_below}
use Rattle.view_change.proofs.promises.Promises.best.Given as goal

abbrev pub invariant-loop-sender : goal.invariant-loop-sender
invariant-loop-sender l = l.best ≡ best_below l.known l.self l.sender
