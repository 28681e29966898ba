use Rattle.std.proofs.Common.{◌≡◌, ◌++◌, map}
use Rattle.grammar.specs.Turns.{turn_with}
use Rattle.grammar.proofs.reader.all_of_memcached.Given as goal

abbrev pub invariant-loop-turn : goal.invariant-loop-turn
invariant-loop-turn l = record {
  whole : l.yielded ++ l.turn-iterator.rest.items ≡ l.fn.read.items;
  mapped : l.turns.items ≡ map (turn_with l.fn.figures) l.yielded;
}
