use Rattle.std.proofs.Common.{ℕ, ◌<◌}
use Rattle.std.specs.Prelude.{slice_get}
use Rattle.executor.specs.Through.{IsNotLeft}
use Rattle.executor.proofs.groups.next_place.Given as goal

-- none so far has a step left
abbrev pub invariant-loop-r : goal.invariant-loop-r
invariant-loop-r l = (j : ℕ) → j < l.r-index → IsNotLeft l.group (slice_get l.running j)
