use Rattle.std.proofs.Common.{◌≡◌, drop, map}
use Rattle.dialect.specs.Meta.{token_behind}
use Rattle.dialect.proofs.meta_flags.token_behind.Given as goal

-- the words that are left decide
abbrev pub invariant-loop-word : goal.invariant-loop-word
invariant-loop-word l = token_behind l.sought (map (λ w. w.now) (drop l.word-index l.words)) ≡ token_behind l.sought (map (λ w. w.now) l.words)
