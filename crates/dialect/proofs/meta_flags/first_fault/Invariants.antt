use Rattle.std.proofs.Common.{◌≡◌, map, length}
use Rattle.dialect.specs.Meta.{first_fault}
use Rattle.dialect.proofs.meta_flags.first_fault.Given as goal

-- the words that are left decide
abbrev pub invariant-loop-left : goal.invariant-loop-left
invariant-loop-left l = first_fault l.meta (map (λ w. w.now) l.left) ≡ first_fault l.meta (map (λ w. w.now) l.words)

abbrev pub decreases-loop-left : goal.decreases-loop-left
decreases-loop-left l = length l.left
