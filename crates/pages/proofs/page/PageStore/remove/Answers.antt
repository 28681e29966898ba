use Rattle.std.proofs.Common.{sym, subst, ◌∙◌}
use Rattle.std.specs.FinMap.{entries, get}
use Rattle.items.specs.Map.{Items}
use Rattle.wire.specs.Item.{PageFits}
use Rattle.pages.proofs.PageLemmas.{fits-remove, remove-absent, found-is, none-found}
use Rattle.pages.proofs.page.PageStore.remove.Goals as goal

pub invariant_of-self-then-is_some : goal.invariant_of-self-then-is_some
invariant_of-self-then-is_some c = subst (λ (m : Items). PageFits (entries m)) (sym c.in_ok-remove.ensures.ok) (fits-remove _ c.args.key.now c.self.invariant)

pub returns-else-is_some-clause-ok : goal.returns-else-is_some-clause-ok
returns-else-is_some-clause-ok c =
    sym (remove-absent c.args.self.now.items c.args.key.now (none-found _
    (found-is c.get.result (get c.args.self.now.items c.args.key.now) c.is_some.result c.get.ensures c.is_some.ensures ∙ c.if-is_some.false)))
