use Rattle.std.proofs.Common.{◌≡◌, drop, map}
use Rattle.dialect.specs.Meta.{has}
use Rattle.dialect.proofs.meta_flags.has.Given as goal

-- the words that are left decide
abbrev pub invariant-loop-word : goal.invariant-loop-word
invariant-loop-word l = has l.sought (map (λ w. w.now) (drop l.word-index l.words)) ≡ has l.sought (map (λ w. w.now) l.words)
