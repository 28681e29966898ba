use Rattle.std.proofs.Common.{◌≡◌, ◌-◌, ℕ, drop, length}
use Rattle.shelf.specs.WaitingView.{changed_rows}
use Rattle.shelf.specs.Found.{rows_found}
use Rattle.shelf.proofs.comparing.are_all.Given as goal

abbrev pub invariant-loop-index : goal.invariant-loop-index
invariant-loop-index l = (p : ℕ) → rows_found l.fn.found p ≡ changed_rows (rows_found l.found) (drop (length l.row_items - l.index) l.row_items) p
