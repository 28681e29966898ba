use Rattle.row_store.specs.Saved.{HasTables}
use Rattle.row_store.proofs.rows.are_tables.Given as goal

abbrev pub invariant-loop-table : goal.invariant-loop-table
invariant-loop-table g l = HasTables l.table (g.S.Store.view l.store)
