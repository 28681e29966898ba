use Rattle.std.proofs.Common.{refl, sym, subst}
use Rattle.states.specs.State.{StateView}
use Rattle.process_text.specs.StateOf.{IsStateOf}
use Rattle.service.specs.Record.{RecordView}
use Rattle.shelf.specs.Found.{rows_found}
use Rattle.data_folder.specs.Text.{service_text}
use Rattle.data_folder.specs.Items.{IsTextWith}
use Rattle.data_folder.proofs.ItemLemmas.{rows_read}
use Rattle.data_folder.proofs.found_copy.record_in.Goals as goal

pub returns-clause-is : goal.returns-clause-is
returns-clause-is g c =
    let is_state : IsStateOf c.args.text.now c.in_ok-state-2.state = subst (λ (s : StateView). IsStateOf c.args.text.now s) (sym c.in_ok-state-2.ensures.same) c.in_ok-state.ensures in
    subst (λ (r : RecordView). IsTextWith r (service_text c.args.text.now c.args.next) c.in_ok-state-2.state) (sym c.of.ensures)
    (record { text = record { process = c.args.text.now; state = c.in_ok-state-2.state; stored = c.in_ok-replicas.ensures.stored is_state; is = refl }; same = refl })

pub returns-clause-items : goal.returns-clause-items
returns-clause-items g c = λ clean is_open told.
    rows_read (g.S.Store.view c.args.shelf.now.rows.store).committed (g.S.Store.view c.items.new.self.rows.store).committed c.args.shelf.now.waiting c.items.new.self.waiting
    (rows_found c.in_ok-items.items) c.in_ok-state-2.state.items (c.items.ensures.same clean is_open).1 c.items.ensures.memory (c.in_ok-items.ensures.found clean) (c.in_ok-state-2.ensures.items told)
