use Rattle.std.proofs.Common.{sym, subst}
use Rattle.std.specs.FinMap.{entries, insert}
use Rattle.items.specs.Map.{Items}
use Rattle.wire.specs.Item.{PageFits}
use Rattle.pages.specs.Page.{PageState}
use Rattle.pages.proofs.PageLemmas.{fits-insert}
use Rattle.pages.proofs.page.PageStore.put.Goals as goal

pub put-requires : goal.put-requires
put-requires c =
    let old_fits : PageFits (entries c.args.self.now.items) = subst (λ (p : PageState). PageFits (entries p.items)) c.self.view_is c.self.invariant in
    subst (λ (p : PageState). PageFits (entries (insert p.items c.args.key c.args.item))) (sym c.self.view_is)
    (fits-insert c.args.self.now.items c.args.key c.args.item old_fits (c.has_room.ensures.room.0 c.if-not-has_room.false))

pub invariant_of-self-2 : goal.invariant_of-self-2
invariant_of-self-2 c =
    let old_fits : PageFits (entries c.args.self.now.items) = subst (λ (p : PageState). PageFits (entries p.items)) c.self.view_is c.self.invariant in
    let fits = subst (λ (p : PageState). PageFits (entries (insert p.items c.args.key c.args.item))) (sym c.self.view_is)
    (fits-insert c.args.self.now.items c.args.key c.args.item old_fits (c.has_room.ensures.room.0 c.if-not-has_room.false)) in
    subst (λ (m : Items). PageFits (entries m)) (sym c.in_ok-put.ensures.ok) fits
