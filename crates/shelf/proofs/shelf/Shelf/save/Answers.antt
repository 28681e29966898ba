use Rattle.std.proofs.Common.{◌≡◌, ◌∙◌, List, ap, inl, inr, arith}
use Rattle.sqlite_trees.specs.View.{IsClean}
use Rattle.item_rows.specs.RowItems.{RowItems}
use Rattle.shelf.specs.WaitingView.{planned}
use Rattle.shelf.specs.InMemory.{waiting_view}
use Rattle.shelf.proofs.SaveLemmas.{is_saved, waiting_saved, items_saved}
use Rattle.shelf.proofs.shelf.Shelf.save.Goals as goal

pub returns-in_err-save-clause-crash : goal.returns-in_err-save-clause-crash
returns-in_err-save-clause-crash g c = λ clean was_open db may.
    let clean_before : IsClean (g.S.Store.view c.args.self.now.rows.store) = omega (arith, c.save.ensures.clean, clean) in
    elim (c.save.ensures.crash clean db may) [
      | inl was ↦ inl was
      | inr is ↦ inr (is_saved (g.S.Store.view c.args.self.now.rows.store).committed db (waiting_view c.args.self.now.waiting) (waiting_view c.reserve.new.self) c.rows_beside-count.result c.args.changes.now.items c.args.extras.now.process c.args.extras.now.replies.items c.deref-2.result.now c.reserve.ensures.same (c.deref-2.ensures.value ∙ (c.in_ok-planned.ensures.planned ∙ ap (λ (xs : List RowItems). planned (waiting_view c.reserve.new.self) c.rows_beside-count.result xs c.args.extras.now.process c.args.extras.now.replies.items) c.deref.ensures.value)) is (c.args.self.now.stands clean_before was_open))
    ]

pub invariant_of-self-2 : goal.invariant_of-self-2
invariant_of-self-2 g c = record {
  tabled = c.save.ensures.tables ∙ c.args.self.now.tabled;
  stands = λ clean is_open.
      let clean_before : IsClean (g.S.Store.view c.args.self.now.rows.store) = omega (arith, c.save.ensures.clean, clean) in
      let saved = c.in_ok-save.ensures.saved clean in
      waiting_saved (g.S.Store.view c.args.self.now.rows.store).committed (g.S.Store.view c.save.new.self.store).committed (waiting_view c.args.self.now.waiting) (waiting_view c.reserve.new.self) c.rows_beside-count.result c.args.changes.now.items c.args.extras.now.process c.args.extras.now.replies.items c.deref-2.result.now c.reserve.ensures.same (c.deref-2.ensures.value ∙ (c.in_ok-planned.ensures.planned ∙ ap (λ (xs : List RowItems). planned (waiting_view c.reserve.new.self) c.rows_beside-count.result xs c.args.extras.now.process c.args.extras.now.replies.items) c.deref.ensures.value)) saved.committed (waiting_view c.note.new.self) (waiting_view c.rotate.new.self) c.note.ensures.noted c.rotate.ensures (c.args.self.now.stands clean_before saved.was_open);
}

pub returns-clause-saved : goal.returns-clause-saved
returns-clause-saved g c = λ clean.
    let clean_before : IsClean (g.S.Store.view c.args.self.now.rows.store) = omega (arith, c.save.ensures.clean, clean) in
    let saved = c.in_ok-save.ensures.saved clean in
    (saved.open_now, is_saved (g.S.Store.view c.args.self.now.rows.store).committed (g.S.Store.view c.save.new.self.store).committed (waiting_view c.args.self.now.waiting) (waiting_view c.reserve.new.self) c.rows_beside-count.result c.args.changes.now.items c.args.extras.now.process c.args.extras.now.replies.items c.deref-2.result.now c.reserve.ensures.same (c.deref-2.ensures.value ∙ (c.in_ok-planned.ensures.planned ∙ ap (λ (xs : List RowItems). planned (waiting_view c.reserve.new.self) c.rows_beside-count.result xs c.args.extras.now.process c.args.extras.now.replies.items) c.deref.ensures.value)) saved.committed (c.args.self.now.stands clean_before saved.was_open))

pub returns-clause-items : goal.returns-clause-items
returns-clause-items g c = λ clean p.
    let saved = c.in_ok-save.ensures.saved clean in
    items_saved (g.S.Store.view c.args.self.now.rows.store).committed (g.S.Store.view c.save.new.self.store).committed (waiting_view c.args.self.now.waiting) (waiting_view c.reserve.new.self) c.rows_beside-count.result c.args.changes.now.items c.args.extras.now.process c.args.extras.now.replies.items c.deref-2.result.now c.reserve.ensures.same (c.deref-2.ensures.value ∙ (c.in_ok-planned.ensures.planned ∙ ap (λ (xs : List RowItems). planned (waiting_view c.reserve.new.self) c.rows_beside-count.result xs c.args.extras.now.process c.args.extras.now.replies.items) c.deref.ensures.value)) saved.committed (waiting_view c.note.new.self) (waiting_view c.rotate.new.self) c.note.ensures.noted c.rotate.ensures p

pub returns-clause-crash : goal.returns-clause-crash
returns-clause-crash g c = λ clean was_open db may.
    let clean_before : IsClean (g.S.Store.view c.args.self.now.rows.store) = omega (arith, c.save.ensures.clean, clean) in
    elim (c.save.ensures.crash clean db may) [
      | inl was ↦ inl was
      | inr is ↦ inr (is_saved (g.S.Store.view c.args.self.now.rows.store).committed db (waiting_view c.args.self.now.waiting) (waiting_view c.reserve.new.self) c.rows_beside-count.result c.args.changes.now.items c.args.extras.now.process c.args.extras.now.replies.items c.deref-2.result.now c.reserve.ensures.same (c.deref-2.ensures.value ∙ (c.in_ok-planned.ensures.planned ∙ ap (λ (xs : List RowItems). planned (waiting_view c.reserve.new.self) c.rows_beside-count.result xs c.args.extras.now.process c.args.extras.now.replies.items) c.deref.ensures.value)) is (c.args.self.now.stands clean_before was_open))
    ]
