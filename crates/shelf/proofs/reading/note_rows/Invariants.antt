use Rattle.std.proofs.Common.{◌≡◌, ◌-◌, ℕ, drop, length}
use Rattle.shelf.specs.Rows.{row_at}
use Rattle.shelf.specs.Found.{rows_found}
use Rattle.shelf.proofs.reading.note_rows.Given as goal

abbrev pub invariant-loop-index : goal.invariant-loop-index
invariant-loop-index l = (p : ℕ) → rows_found l.found p ≡ row_at (drop (length l.rows - l.index) l.rows) p
