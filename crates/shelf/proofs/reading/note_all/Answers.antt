use Rattle.std.proofs.Common.{◌∙◌}
use Rattle.shelf.specs.Rows.{row_at}
use Rattle.shelf.specs.WaitingView.{changed_rows}
use Rattle.shelf.specs.Found.{rows_found}
use Rattle.shelf.proofs.WaitingLemmas.{changed_alike}
use Rattle.shelf.proofs.reading.note_all.Goals as goal

pub returns : goal.returns
returns c = λ p.
    c.in_ok-note_changes-2.ensures p
    ∙ (changed_alike (rows_found c.note_changes.new.found) (changed_rows (row_at c.args.rows.now) c.rest.result.now)
    (λ q. c.in_ok-note_changes.ensures q ∙ changed_alike (rows_found c.note_rows.new.found) (row_at c.args.rows.now) c.in_ok-note_rows.ensures c.rest.result.now q)
    c.deref.result.now p
    ∙ (λ i. changed_rows (changed_rows (row_at c.args.rows.now) (c.rest.ensures i)) (c.deref.ensures.value i) p))
