use Rattle.shelf.specs.Found.{rows_found}
use Rattle.data_folder.proofs.ItemLemmas.{rows_read}
use Rattle.data_folder.proofs.found_copy.nothing.Goals as goal

pub returns-clause-items : goal.returns-clause-items
returns-clause-items g c = λ clean is_open told.
    rows_read (g.S.Store.view c.args.shelf.now.rows.store).committed (g.S.Store.view c.items.new.self.rows.store).committed c.args.shelf.now.waiting c.items.new.self.waiting
    (rows_found c.in_ok-items.items) c.in_ok-state.state.items (c.items.ensures.same clean is_open).1 c.items.ensures.memory (c.in_ok-items.ensures.found clean) (c.in_ok-state.ensures.items told)
