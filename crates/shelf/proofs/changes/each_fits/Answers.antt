use Rattle.std.proofs.Common.{◌≡◌, List, subst, sym, rules}
use Rattle.std.specs.Prelude.{All}
use Rattle.std.proofs.lemmas.List.Elements.{All-more}
use Rattle.item_rows.specs.RowItems.{RowItems, FitsItsRow}
use Rattle.shelf.proofs.OpenLemmas.{take_whole}
use Rattle.shelf.proofs.changes.each_fits.Goals as goal

pub loop-row_items-preserved : goal.loop-row_items-preserved
loop-row_items-preserved c =
    let h : FitsItsRow (c.row_items-item.result.0, c.as_slice.result.now) = c.fits_row.ensures.0 (search rules) in
    let fits : FitsItsRow c.row_items-item.result = subst (λ items. FitsItsRow (c.row_items-item.result.0, items)) c.as_slice.ensures h in
    All-more FitsItsRow c.args.changes.now c.loop-row_items.row_items-index c.row_items-item.result c.loop-row_items-test.true c.loop-row_items.invariant (subst FitsItsRow c.row_items-item.is fits)

pub returns : goal.returns
returns c = λ yes. subst (All FitsItsRow) (take_whole c.args.changes.now c.loop-row_items.row_items-index c.loop-row_items-test.false) c.loop-row_items.invariant
