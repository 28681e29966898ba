use Rattle.data_folder.proofs.FolderLemmas.{some_text_found, finds_copy, open_if}
use Rattle.data_folder.proofs.ItemLemmas.{opens_with}
use Rattle.data_folder.proofs.folder.DataFolder.with_found.Goals as goal

pub invariant_of-folder : goal.invariant_of-folder
invariant_of-folder g c = record {
  kept = λ clean is_open. some_text_found (g.S.Store.view c.args.shelf.rows.store).committed c.args.found.copy (c.requires.copy clean is_open);
}

pub returns-clause-finds : goal.returns-clause-finds
returns-clause-finds g c =
    finds_copy (g.S.Store.view c.args.shelf.rows.store) (g.S.Store.recovers c.args.shelf.rows.store) c.args.found.copy
    (λ clean. open_if c.is_shut.result (g.S.Store.view c.args.shelf.rows.store).is_open (c.is_shut.ensures clean).1 c.if-is_shut.false)
    (λ db opened may. g.met.S.Store.settled c.args.shelf.rows.store db opened may) c.requires.copy

pub returns-clause-items : goal.returns-clause-items
returns-clause-items g c =
    opens_with (g.S.Store.view c.args.shelf.rows.store) (g.S.Store.recovers c.args.shelf.rows.store) c.args.shelf.waiting c.args.found.state c.args.found.copy c.requires.state
    (λ clean. open_if c.is_shut.result (g.S.Store.view c.args.shelf.rows.store).is_open (c.is_shut.ensures clean).1 c.if-is_shut.false)
    (λ db opened may. g.met.S.Store.settled c.args.shelf.rows.store db opened may) c.says.ensures c.requires.items
