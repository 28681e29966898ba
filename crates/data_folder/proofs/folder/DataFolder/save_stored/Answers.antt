use Rattle.std.proofs.Common.{inl, inr, subst}
use Rattle.std.proofs.lemmas.Result.{on_ok_weaker}
use Rattle.states.specs.State.{StateView}
use Rattle.data_folder.specs.Items.{CrashLeaves, HasItemsOf, HoldsRecord, LeavesRecord}
use Rattle.data_folder.proofs.ItemLemmas.{prepared_lead, on_ok_as}
use Rattle.data_folder.proofs.folder.DataFolder.save_stored.Goals as goal

pub returns-in-Ok-clause-items : goal.returns-in-Ok-clause-items
returns-in-Ok-clause-items g c =
    on_ok_as _ c.write.result c.map_err.result c.map_err.ensures.variant
    (on_ok_weaker c.write.result
    (λ leaves last has told.
    subst (λ (s : StateView). LeavesRecord (CrashLeaves (g.S.Store.view c.write.new.self.shelf.rows.store) (g.S.Store.recovers c.write.new.self.shelf.rows.store)) (HasItemsOf (g.S.Store.view c.write.new.self.shelf.rows.store) c.write.new.self.shelf.waiting c.write.new.self.last) (record { stamp = c.args.stamp; text = c.args.stored.now.text.items }) s) c.in-Ok.ensures.state
    (leaves (record { stamp = c.args.stamp; text = c.args.stored.now.text.items }) c.in-Ok.ensures.extras last has
    (prepared_lead c.args.self.now.last last c.args.stored.now.state c.in-Ok.prepared.state c.in-Ok.prepared.changes.items has.last_is c.in-Ok.ensures.state c.in-Ok.ensures.changes told)))
    c.write.ensures.items)

pub returns-in-Ok-clause-left : goal.returns-in-Ok-clause-left
returns-in-Ok-clause-left g c = λ last has told db may.
    elim (c.write.ensures.left (record { stamp = c.args.stamp; text = c.args.stored.now.text.items }) c.in-Ok.ensures.extras last has
    (prepared_lead c.args.self.now.last last c.args.stored.now.state c.in-Ok.prepared.state c.in-Ok.prepared.changes.items has.last_is c.in-Ok.ensures.state c.in-Ok.ensures.changes told) db may) [
      | inl was ↦ inl was
      | inr new ↦ inr (subst (λ (s : StateView). ∥ HoldsRecord db (record { stamp = c.args.stamp; text = c.args.stored.now.text.items }) s ∥₁) c.in-Ok.ensures.state new)
    ]
