use Rattle.std.proofs.Common.{◌≡◌}
use Rattle.app.specs.Making.{stage, MadeOfWords, words_of_seed, words_after}
use Rattle.app.proofs.making.happen_at_random.Given as goal

-- so many events were made, of so many words
abbrev pub invariant-loop : goal.invariant-loop
invariant-loop g l = record {
  made : MadeOfWords l.config l.counter (words_of_seed l.seed) (stage l.fn.world l.fn.past) (stage l.world l.past);
  words : l.maker ≡ words_after l.counter (words_of_seed l.seed);
}
