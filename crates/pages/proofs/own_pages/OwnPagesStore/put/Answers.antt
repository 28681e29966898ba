use Rattle.std.proofs.Common.{◌≡◌, set, subst, OnOk}
use Rattle.std.specs.FinMap.{insert}
use Rattle.items.specs.Map.{Items}
use Rattle.pages.specs.Page.{page_number}
use Rattle.pages.specs.Joined.{ArePages, joined_pages, items_of}
use Rattle.pages.proofs.JoinedLemmas.{joined-insert}
use Rattle.pages.proofs.StateLemmas.{edit-page, ok-items}
use Rattle.pages.proofs.own_pages.OwnPagesStore.put.Goals as goal

both : (c : goal.After-self-1) → ArePages (items_of (set c.self.inside.pages.items c.page_of.result c.put.new.self))
    × OnOk c.put.result (joined_pages (items_of (set c.self.inside.pages.items c.page_of.result c.put.new.self)) ≡ insert (joined_pages (items_of c.self.inside.pages.items)) c.args.key c.args.item)
both c =
    let pages = c.self.inside.pages.items in
    edit-page c.put.result pages c.page_of.result (page_number c.args.key) c.index_mut-page.result.now c.put.new.self
    (λ (m : Items). insert m c.args.key c.args.item) (insert (joined_pages (items_of pages)) c.args.key c.args.item)
    c.self.invariant c.page_of.ensures.number c.page_of.ensures.small c.index_mut-page.ensures.value
    (ok-items c.put.result c.put.new.self _ _ _ c.put.ensures.ok) c.put.ensures.err (joined-insert (items_of pages) c.self.invariant c.args.key c.args.item)

pub invariant_of-self : goal.invariant_of-self
invariant_of-self c = (both c).0

pub returns-clause-ok : goal.returns-clause-ok
returns-clause-ok c =
    subst (λ (m : Items). OnOk c.put.result (joined_pages (items_of (set c.self.inside.pages.items c.page_of.result c.put.new.self)) ≡ insert m c.args.key c.args.item)) c.self.view_is (both c).1
