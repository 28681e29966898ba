use Rattle.std.proofs.Common.{◌∙◌}
use Rattle.shelf.specs.Found.{rows_found}
use Rattle.shelf.proofs.OpenLemmas.{row_items_found}
use Rattle.shelf.proofs.reading.note_row.Goals as goal

pub returns : goal.returns
returns c = λ p. c.in_ok-note.ensures p ∙ row_items_found c.in_ok-row_items.row_items c.args.row.now c.in_ok-row_items.ensures.ok (rows_found c.args.found.now) p
