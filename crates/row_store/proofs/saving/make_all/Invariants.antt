use Rattle.std.proofs.Common.{take}
use Rattle.sqlite_trees.specs.View.{IsClean, KeepsSchema, IsQuiet}
use Rattle.row_store.specs.Saved.{after, SeesRows}
use Rattle.row_store.proofs.saving.make_all.Given as goal

abbrev pub invariant-loop-change : goal.invariant-loop-change
invariant-loop-change g l =
    (IsClean (g.S.Store.view l.store) → SeesRows (g.S.Store.view l.fn.store) (after (take l.change-index l.changes) (g.S.Store.view l.fn.store).trees) (g.S.Store.view l.store))
    × KeepsSchema (g.S.Store.view l.fn.store) (g.S.Store.view l.store)
    × IsQuiet g.S.Store.view g.S.Store.faults g.S.Store.recovers g.S.Store.is_shielded l.fn.store l.store
