use Rattle.std.proofs.Common.{◌≡◌, sym, subst, rules}
use Rattle.std.specs.Arc.{arc_value}
use Rattle.std.specs.FinMap.{entries, insert}
use Rattle.items.specs.Map.{Items}
use Rattle.wire.specs.Item.{PageFits}
use Rattle.pages.proofs.PageLemmas.{page-written}
use Rattle.pages.proofs.sorted_page.SortedPage.put.Goals as goal

pub invariant_of-self-2 : goal.invariant_of-self-2
invariant_of-self-2 c =
    let old = arc_value c.self.inside.store in
    let is : arc_value (c.make_mut.follows.lender c.put.new.self) ≡ insert (arc_value c.self.inside.store) c.args.key c.args.item = search rules in
    page-written _ (insert old c.args.key c.args.item) _ is c.forget.ensures
    (subst (λ (m : Items). PageFits (entries (insert m c.args.key c.args.item))) (sym c.self.view_is) c.requires)
