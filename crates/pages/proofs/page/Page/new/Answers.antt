use Rattle.std.proofs.Common.{sym, subst}
use Rattle.std.specs.FinMap.{entries}
use Rattle.items.specs.Map.{Items}
use Rattle.wire.specs.Item.{PageFits}
use Rattle.pages.proofs.PageLemmas.{fits-empty}
use Rattle.pages.proofs.page.Page.new.Goals as goal

pub of_store-requires : goal.of_store-requires
of_store-requires c = subst (λ (m : Items). PageFits (entries m)) (sym c.new.ensures) fits-empty
