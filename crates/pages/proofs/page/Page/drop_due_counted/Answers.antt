use Rattle.std.proofs.Common.{sym, subst}
use Rattle.std.specs.FinMap.{entries}
use Rattle.items.specs.Map.{Items}
use Rattle.wire.specs.Item.{PageFits}
use Rattle.pages.proofs.PageLemmas.{fits-alive}
use Rattle.pages.proofs.page.Page.drop_due_counted.Goals as goal

pub invariant_of-self-2 : goal.invariant_of-self-2
invariant_of-self-2 c = subst (λ (m : Items). PageFits (entries m)) (sym c.in_ok-looks.ensures.ok) (fits-alive _ c.args.moment c.self.invariant)
