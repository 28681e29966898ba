use Rattle.std.proofs.Common.{◌≡◌, ◌<◌, ℕ}
use Rattle.token.specs.Merged.{IsNext, lent}
use Rattle.token.proofs.merged.next_of.Given as goal

-- of the parts so far, the one that comes next is the next so far
abbrev pub invariant-loop-part : goal.invariant-loop-part
invariant-loop-part l = (l.next < l.part) × ((j : ℕ) → j < l.part → IsNext (lent l.parts) j → l.next ≡ j)
