use Rattle.std.proofs.Common.{◌≡◌, ◌++◌}
use Rattle.world.proofs.sending.send.Given as goal

abbrev pub invariant-loop-letter : goal.invariant-loop-letter
invariant-loop-letter l = record {
  whole : l.yielded ++ l.letter-iterator.rest.items ≡ l.fn.sent.items;
  sent : l.letters.items ≡ l.fn.letters.items ++ l.yielded;
}
