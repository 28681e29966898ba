use Rattle.std.proofs.Common.{◌≡◌, ◌++◌, map, take}
use Rattle.slots.specs.Sending.{as_sent}
use Rattle.slots.proofs.sending.send_ballots.Given as goal

abbrev pub invariant-loop-letter : goal.invariant-loop-letter
invariant-loop-letter l = l.letters.items ≡ l.fn.letters.items ++ map as_sent (take l.letter-index l.sent)
