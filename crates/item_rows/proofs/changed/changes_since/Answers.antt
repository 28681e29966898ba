use Rattle.std.proofs.Common.{◌+◌, List, sym, subst}
use Rattle.item_rows.specs.RowItems.{RowItems}
use Rattle.item_rows.proofs.ChangedLemmas.{ArePagesNoted, one_page_more, all_follow}
use Rattle.item_rows.proofs.changed.changes_since.Goals as goal

pub loop-number-preserved : goal.loop-number-preserved
loop-number-preserved c =
    subst (λ (cs : List RowItems). ArePagesNoted (c.loop-number.number + 1) c.args.old.now c.args.new.now cs) (sym c.in_ok-append.ensures.items)
    (one_page_more c.loop-number.number c.args.old.now c.args.new.now c.loop-number.changes.items c.in_ok-found.found.items c.loop-number-test.true c.loop-number.invariant c.in_ok-found.ensures)

pub returns : goal.returns
returns c = all_follow c.loop-number.number c.args.old.now c.args.new.now c.loop-number.changes.items c.loop-number-test.false c.loop-number.invariant
