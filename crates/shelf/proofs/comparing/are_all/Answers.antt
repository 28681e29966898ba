use Rattle.std.proofs.Common.{refl, sym}
use Rattle.shelf.specs.Found.{rows_found}
use Rattle.shelf.proofs.TakenLemmas.{one_less}
use Rattle.shelf.proofs.comparing.are_all.Goals as goal

pub loop-index-preserved : goal.loop-index-preserved
loop-index-preserved c =
    one_less (rows_found c.args.found.now) (rows_found c.loop-index.found) (rows_found c.pops_same.new.found) c.args.row_items.now c.loop-index.index c.index-row_items-row_items.result
    c.loop-index-test.true (sym c.index-row_items-row_items.is) c.loop-index.invariant (c.if-not-pops_same.ensures refl)
