use Rattle.std.proofs.Common.{◌∙◌, ap, sym, Option}
use Rattle.std.specs.Prelude.{if◌then◌else◌, pos, Some}
use Rattle.sqlite_value.specs.Order.{Row}
use Rattle.sqlite_trees.specs.Tree.{has_rowid}
use Rattle.shelf.proofs.OpenLemmas.{rows_back}
use Rattle.shelf.proofs.reading.note_rows.Goals as goal

pub loop-index-preserved : goal.loop-index-preserved
loop-index-preserved c = λ p.
    c.in_ok-note_row.ensures p
    ∙ (ap (λ (o : Option Row). if has_rowid (pos p) c.index-rows-rows.result then Some c.index-rows-rows.result else o) (c.loop-index.invariant p)
    ∙ sym (rows_back c.args.rows.now c.loop-index.index c.index-rows-rows.result c.loop-index-test.true (sym c.index-rows-rows.is) p))
