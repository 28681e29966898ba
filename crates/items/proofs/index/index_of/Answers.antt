use Rattle.std.proofs.Common.{◌≡◌, ◌+◌, take, ◌∙◌, sym, subst}
use Rattle.items.specs.Index.{IsIndex, with_due}
use Rattle.items.proofs.IndexLemmas.{index-next}
use Rattle.items.proofs.index.index_of.Goals as goal

pub loop-entry-preserved : goal.loop-entry-preserved
loop-entry-preserved c =
    let e = c.entry-item.result in
    let copy : c.in_ok-clone.field-0 ≡ c.entry-item.result = c.in_ok-clone.ensures.cases in
    let is : c.add_due.new.index.items ≡ with_due e.1.due e.0 e.1 c.loop-entry.index.items =
    c.add_due.ensures ∙ (λ i. with_due (copy i).1.due (copy i).0 (copy i).1 (c.make_room.ensures.same i)) in
    subst (λ es. IsIndex es (take (c.loop-entry.entry-index + 1) c.args.entries.now)) (sym is)
    (index-next c.loop-entry.index.items c.args.entries.now c.loop-entry.entry-index e c.requires c.loop-entry-test.true c.entry-item.is c.loop-entry.invariant)
