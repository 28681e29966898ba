use Rattle.std.proofs.Common.{◌≡◌, ◌≤◌}
use Rattle.decrees.specs.Count.{count_below}
use Rattle.verifier.specs.Tally.{has_accepted}
use Rattle.verifier.proofs.tally.Tally.is_accepted.Given as goal

abbrev pub invariant-loop-sender : goal.invariant-loop-sender
invariant-loop-sender l = record { counted : l.senders ≡ count_below (has_accepted l.self l.view l.decree) l.sender; bounded : l.senders ≤ l.sender }
