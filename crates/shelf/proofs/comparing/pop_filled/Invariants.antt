use Rattle.std.proofs.Common.{◌≡◌, ℕ, length}
use Rattle.shelf.specs.Found.{rows_found}
use Rattle.shelf.proofs.comparing.pop_filled.Given as goal

-- rows without items are gone
abbrev pub invariant-loop-row_items : goal.invariant-loop-row_items
invariant-loop-row_items l = (p : ℕ) → rows_found l.found p ≡ rows_found l.fn.found p

abbrev pub decreases-loop-row_items : goal.decreases-loop-row_items
decreases-loop-row_items l = length l.found.entries
