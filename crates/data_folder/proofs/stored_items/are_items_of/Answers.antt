use Rattle.std.proofs.Common.{◌∙◌, List, ap, sym, subst}
use Rattle.item_rows.specs.RowItems.{RowItems}
use Rattle.item_rows.specs.Changed.{LeadTo}
use Rattle.states.specs.State.{StateView, initial_state}
use Rattle.pages.specs.Form.{layout_of}
use Rattle.shelf.specs.Found.{rows_found}
use Rattle.data_folder.proofs.ItemLemmas.{states_lead, rows_of_all}
use Rattle.data_folder.proofs.stored_items.are_items_of.Goals as goal

pub returns : goal.returns
returns c = λ are told.
    rows_of_all (rows_found c.args.found.now) c.deref.result.now c.args.state.now.items (c.are_all.ensures are)
    (subst (λ (cs : List RowItems). LeadTo cs initial_state.items c.args.state.now.items) (sym c.deref.ensures.value)
    (states_lead c.pages.result.now c.pages-2.result.now initial_state c.args.state.now c.in_ok-row_items.row_items.items
    (c.pages.ensures.items ∙ ap (λ (s : StateView). s.items) c.in_ok-none.ensures)
    (c.pages.ensures.laid ∙ ap (λ (s : StateView). layout_of s.form) c.in_ok-none.ensures)
    c.pages-2.ensures.items c.pages-2.ensures.laid c.in_ok-row_items.ensures told))
