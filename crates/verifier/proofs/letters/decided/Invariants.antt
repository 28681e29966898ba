use Rattle.std.proofs.Common.{◌≡◌, ◌+◌, take}
use Rattle.verifier.specs.State.{decided_from}
use Rattle.verifier.proofs.letters.decided.Given as goal

abbrev pub invariant-loop-decree : goal.invariant-loop-decree
invariant-loop-decree l = record {
  placed : l.place ≡ l.fn.from + l.decree-index;
  told : l.letters.items ≡ decided_from l.id l.to l.fn.from (take l.decree-index l.decrees);
}
