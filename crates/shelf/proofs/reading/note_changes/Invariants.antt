use Rattle.std.proofs.Common.{◌≡◌, ℕ, take}
use Rattle.shelf.specs.WaitingView.{changed_rows}
use Rattle.shelf.specs.Found.{rows_found}
use Rattle.shelf.proofs.reading.note_changes.Given as goal

abbrev pub invariant-loop-row_items : goal.invariant-loop-row_items
invariant-loop-row_items l = (p : ℕ) → rows_found l.found p ≡ changed_rows (rows_found l.fn.found) (take l.row_items-index l.changes) p
