use Rattle.std.proofs.Common.{sym}
use Rattle.shelf.specs.Found.{rows_found}
use Rattle.shelf.proofs.OpenLemmas.{changed_more}
use Rattle.shelf.proofs.reading.note_changes.Goals as goal

pub loop-row_items-preserved : goal.loop-row_items-preserved
loop-row_items-preserved c =
    changed_more (rows_found c.args.found.now) (rows_found c.loop-row_items.found) (rows_found c.note.new.found) c.args.changes.now c.loop-row_items.row_items-index c.row_items-item.result
    c.loop-row_items-test.true (sym c.row_items-item.is) c.loop-row_items.invariant c.in_ok-note.ensures
