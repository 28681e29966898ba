use Rattle.std.proofs.Common.{◌≡◌, drop, map, false}
use Rattle.dialect.specs.Line.{ends_quiet}
use Rattle.dialect.proofs.meaning.says_noreply.Given as goal

-- the words that are left decide, after those so far
abbrev pub invariant-loop-word : goal.invariant-loop-word
invariant-loop-word l = ends_quiet l.quiet (map (λ w. w.now) (drop l.word-index l.words)) ≡ ends_quiet false (map (λ w. w.now) l.words)
