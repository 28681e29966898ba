use Rattle.std.proofs.Common.{◌≡◌, ◌≤◌}
use Rattle.decrees.specs.Count.{count_below}
use Rattle.view_change.specs.Promises.{has_promised}
use Rattle.view_change.proofs.promises.Promises.is_quorum.Given as goal

abbrev pub invariant-loop-sender : goal.invariant-loop-sender
invariant-loop-sender l = record { counted : l.senders ≡ count_below (has_promised l.self) l.sender; bounded : l.senders ≤ l.sender }
