use Rattle.std.proofs.Common.{◌≡◌, IsSome, false}
use Rattle.sqlite_trees.specs.View.{IsClean, KeepsSchema, IsQuiet}
use Rattle.row_store.specs.Read.{StoreIsReading, OnlyMoves}
use Rattle.row_store.proofs.reading.read.Given as goal

abbrev pub invariant-loop : goal.invariant-loop
invariant-loop g l =
    IsSome ((g.S.Store.view l.store).cursors 0)
    × KeepsSchema (g.S.Store.view l.fn.store) (g.S.Store.view l.store)
    × IsQuiet g.S.Store.view g.S.Store.faults g.S.Store.recovers g.S.Store.is_shielded l.fn.store l.store
    × (IsClean (g.S.Store.view l.store) → StoreIsReading (g.S.Store.view l.store) l.rows.items ((g.S.Store.view l.fn.store).trees l.table))
    × (IsClean (g.S.Store.view l.store) → OnlyMoves (g.S.Store.view l.fn.store) (g.S.Store.view l.store))
    × (IsClean (g.S.Store.view l.store) → (g.S.Store.view l.fn.store).is_broken ≡ false)
