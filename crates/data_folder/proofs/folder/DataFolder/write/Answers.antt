use Rattle.std.proofs.Common.{◌≡◌, ◌∙◌, inl, inr, arith, refl, sym, subst}
use Rattle.sqlite_trees.specs.Tree.{Trees}
use Rattle.sqlite_trees.specs.View.{IsClean}
use Rattle.shelf.specs.InMemory.{items_in}
use Rattle.shelf.specs.WaitingView.{IsAfterSave}
use Rattle.data_folder.specs.Found.{HoldsSomeText}
use Rattle.data_folder.proofs.FolderLemmas.{text_after, some_text_after}
use Rattle.data_folder.proofs.ItemLemmas.{items_saved, on_err_always, record_after}
use Rattle.data_folder.proofs.folder.DataFolder.write.Goals as goal

pub invariant_of-self : goal.invariant_of-self
invariant_of-self g c = record {
  kept = λ clean is_open.
      let clean_before : IsClean (g.S.Store.view c.args.self.now.shelf.rows.store) = omega (arith, c.save.ensures.clean, clean) in
      subst (λ (db : Trees). HoldsSomeText db) (sym (c.in_err-save.ensures.same clean is_open).file) (c.args.self.now.kept clean_before (c.requires.open clean_before));
}

pub returns-in_err-save-clause-crash : goal.returns-in_err-save-clause-crash
returns-in_err-save-clause-crash g c = λ s is found may.
    let clean_before : IsClean (g.S.Store.view c.args.self.now.shelf.rows.store) = omega (arith, c.save.ensures.clean, may.clean) in
    let was_open = c.requires.open clean_before in
    elim (c.save.ensures.crash may.clean was_open may.db may.may) [
      | inl was ↦ inl (record { clean = clean_before; db = may.db; may = was; has = may.has })
      | inr save ↦ inr (text_after (g.S.Store.view c.args.self.now.shelf.rows.store).committed may.db (items_in (g.S.Store.view c.args.self.now.shelf.rows.store).committed c.args.self.now.shelf.waiting) c.args.prepared.changes.items c.args.prepared.extras.process c.args.prepared.extras.replies.items s is save (c.args.self.now.kept clean_before was_open) found may.has)
    ]

pub invariant_of-self-2 : goal.invariant_of-self-2
invariant_of-self-2 g c = record {
  kept = λ clean is_open.
      let clean_before : IsClean (g.S.Store.view c.args.self.now.shelf.rows.store) = omega (arith, c.save.ensures.clean, clean) in
      some_text_after (g.S.Store.view c.args.self.now.shelf.rows.store).committed (g.S.Store.view c.save.new.self.rows.store).committed (items_in (g.S.Store.view c.args.self.now.shelf.rows.store).committed c.args.self.now.shelf.waiting) c.args.prepared.changes.items c.args.prepared.extras.process c.args.prepared.extras.replies.items c.requires.fits (c.in_ok-save.ensures.saved clean).1 (c.args.self.now.kept clean_before (c.requires.open clean_before));
}

pub returns-clause-saved : goal.returns-clause-saved
returns-clause-saved g c = λ s is found may.
    let clean_before : IsClean (g.S.Store.view c.args.self.now.shelf.rows.store) = omega (arith, c.save.ensures.clean, may.clean) in
    let saved = c.in_ok-save.ensures.saved may.clean in
    let same : may.db ≡ (g.S.Store.view c.save.new.self.rows.store).committed = g.met.S.Store.settled c.save.new.self.rows.store may.db saved.0 may.may in
    text_after (g.S.Store.view c.args.self.now.shelf.rows.store).committed may.db (items_in (g.S.Store.view c.args.self.now.shelf.rows.store).committed c.args.self.now.shelf.waiting) c.args.prepared.changes.items c.args.prepared.extras.process c.args.prepared.extras.replies.items s is
    (subst (λ (db : Trees). IsAfterSave (g.S.Store.view c.args.self.now.shelf.rows.store).committed (items_in (g.S.Store.view c.args.self.now.shelf.rows.store).committed c.args.self.now.shelf.waiting) c.args.prepared.changes.items c.args.prepared.extras.process c.args.prepared.extras.replies.items db) (sym same) saved.1)
    (c.args.self.now.kept clean_before (c.requires.open clean_before)) found may.has

pub returns-clause-crash : goal.returns-clause-crash
returns-clause-crash g c = λ s is found may.
    let clean_before : IsClean (g.S.Store.view c.args.self.now.shelf.rows.store) = omega (arith, c.save.ensures.clean, may.clean) in
    let was_open = c.requires.open clean_before in
    elim (c.save.ensures.crash may.clean was_open may.db may.may) [
      | inl was ↦ inl (record { clean = clean_before; db = may.db; may = was; has = may.has })
      | inr save ↦ inr (text_after (g.S.Store.view c.args.self.now.shelf.rows.store).committed may.db (items_in (g.S.Store.view c.args.self.now.shelf.rows.store).committed c.args.self.now.shelf.waiting) c.args.prepared.changes.items c.args.prepared.extras.process c.args.prepared.extras.replies.items s is save (c.args.self.now.kept clean_before was_open) found may.has)
    ]

pub returns-in_err-save-clause-left : goal.returns-in_err-save-clause-left
returns-in_err-save-clause-left g c = λ s is last has leads db may.
    let clean_before : IsClean (g.S.Store.view c.args.self.now.shelf.rows.store) = omega (arith, c.save.ensures.clean, may.clean) in
    let was_open = c.requires.open clean_before in
    elim (c.save.ensures.crash may.clean was_open db may.may) [
      | inl was ↦ inl (record { clean = clean_before; may = was })
      | inr save ↦ inr (record_after (g.S.Store.view c.args.self.now.shelf.rows.store).committed db (items_in (g.S.Store.view c.args.self.now.shelf.rows.store).committed c.args.self.now.shelf.waiting) c.args.prepared.changes.items c.args.prepared.extras.process c.args.prepared.extras.replies.items s last.items c.args.prepared.state is save (c.args.self.now.kept clean_before was_open) (has.items clean_before was_open) leads)
    ]

pub returns-in_err-save-clause-stays : goal.returns-in_err-save-clause-stays
returns-in_err-save-clause-stays g c = on_err_always c.from_residual.result (λ last has. record {
  last_is = has.last_is;
  items = λ clean is_open p less.
      let clean_before : IsClean (g.S.Store.view c.args.self.now.shelf.rows.store) = omega (arith, c.save.ensures.clean, clean) in
      (c.in_err-save.ensures.same clean is_open).items p ∙ has.items clean_before (c.requires.open clean_before) p less;
})

pub returns-clause-left : goal.returns-clause-left
returns-clause-left g c = λ s is last has leads db may.
    let clean_before : IsClean (g.S.Store.view c.args.self.now.shelf.rows.store) = omega (arith, c.save.ensures.clean, may.clean) in
    let was_open = c.requires.open clean_before in
    elim (c.save.ensures.crash may.clean was_open db may.may) [
      | inl was ↦ inl (record { clean = clean_before; may = was })
      | inr save ↦ inr (record_after (g.S.Store.view c.args.self.now.shelf.rows.store).committed db (items_in (g.S.Store.view c.args.self.now.shelf.rows.store).committed c.args.self.now.shelf.waiting) c.args.prepared.changes.items c.args.prepared.extras.process c.args.prepared.extras.replies.items s last.items c.args.prepared.state is save (c.args.self.now.kept clean_before was_open) (has.items clean_before was_open) leads)
    ]

pub returns-clause-items : goal.returns-clause-items
returns-clause-items g c = λ s is last has leads. record {
  items = record {
    last_is = refl;
    items = λ clean is_open.
        let clean_before : IsClean (g.S.Store.view c.args.self.now.shelf.rows.store) = omega (arith, c.save.ensures.clean, clean) in
        items_saved (items_in (g.S.Store.view c.args.self.now.shelf.rows.store).committed c.args.self.now.shelf.waiting) (items_in (g.S.Store.view c.save.new.self.rows.store).committed c.save.new.self.waiting) c.args.prepared.changes.items last.items c.args.prepared.state.items (has.items clean_before (c.requires.open clean_before)) leads (c.in_ok-save.ensures.items clean);
  };
  left = λ db may.
      let clean_before : IsClean (g.S.Store.view c.args.self.now.shelf.rows.store) = omega (arith, c.save.ensures.clean, may.clean) in
      let was_open = c.requires.open clean_before in
      let saved = c.in_ok-save.ensures.saved may.clean in
      let same : db ≡ (g.S.Store.view c.save.new.self.rows.store).committed = g.met.S.Store.settled c.save.new.self.rows.store db saved.0 may.may in
      record_after (g.S.Store.view c.args.self.now.shelf.rows.store).committed db (items_in (g.S.Store.view c.args.self.now.shelf.rows.store).committed c.args.self.now.shelf.waiting) c.args.prepared.changes.items c.args.prepared.extras.process c.args.prepared.extras.replies.items s last.items c.args.prepared.state is
      (subst (λ (t : Trees). IsAfterSave (g.S.Store.view c.args.self.now.shelf.rows.store).committed (items_in (g.S.Store.view c.args.self.now.shelf.rows.store).committed c.args.self.now.shelf.waiting) c.args.prepared.changes.items c.args.prepared.extras.process c.args.prepared.extras.replies.items t) (sym same) saved.1)
      (c.args.self.now.kept clean_before was_open) (has.items clean_before was_open) leads;
}
