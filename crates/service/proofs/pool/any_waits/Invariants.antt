use Rattle.std.proofs.Common.{◌≡◌, ℕ, ◌<◌, Some, slice_get}
use Rattle.service.specs.declared.assignment.Outstanding.{Outstanding}
use Rattle.service.proofs.pool.any_waits.Given as goal

-- those before it wait for nothing
abbrev pub invariant-loop-at : goal.invariant-loop-at
invariant-loop-at l = (i : ℕ) (o : Outstanding) → i < l.at → slice_get l.waiting.items i ≡ Some (Some o) → ⊥
