use Rattle.std.specs.Prelude.{All, take}
use Rattle.item_rows.specs.RowItems.{FitsItsRow}
use Rattle.shelf.proofs.changes.each_fits.Given as goal

abbrev pub invariant-loop-row_items : goal.invariant-loop-row_items
invariant-loop-row_items l = All FitsItsRow (take l.row_items-index l.changes)
