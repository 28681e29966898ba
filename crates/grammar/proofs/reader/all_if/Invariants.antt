use Rattle.std.proofs.Common.{◌≡◌, ◌++◌, map}
use Rattle.grammar.specs.Limit.{turn_when}
use Rattle.grammar.proofs.reader.all_if.Given as goal

abbrev pub invariant-loop-turn : goal.invariant-loop-turn
invariant-loop-turn l = record {
  whole : l.yielded ++ l.turn-iterator.rest.items ≡ l.fn.read.items;
  mapped : l.turns.items ≡ map (turn_when l.fn.is_full) l.yielded;
}
