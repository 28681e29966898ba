use Rattle.std.proofs.Common.{◌≡◌, set, subst, OnOk}
use Rattle.std.specs.FinMap.{remove}
use Rattle.items.specs.Map.{Items}
use Rattle.pages.specs.Page.{page_number}
use Rattle.pages.specs.Joined.{ArePages, joined_pages, items_of}
use Rattle.pages.proofs.JoinedLemmas.{joined-remove}
use Rattle.pages.proofs.StateLemmas.{edit-page}
use Rattle.pages.proofs.own_pages.OwnPagesStore.remove.Goals as goal

both : (c : goal.After-self-1) → ArePages (items_of (set c.self.inside.pages.items c.page_of.result c.remove.new.self))
    × OnOk c.remove.result (joined_pages (items_of (set c.self.inside.pages.items c.page_of.result c.remove.new.self)) ≡ remove (joined_pages (items_of c.self.inside.pages.items)) c.args.key.now)
both c =
    let pages = c.self.inside.pages.items in
    edit-page c.remove.result pages c.page_of.result (page_number c.args.key.now) c.index_mut-page.result.now c.remove.new.self
    (λ (m : Items). remove m c.args.key.now) (remove (joined_pages (items_of pages)) c.args.key.now)
    c.self.invariant c.page_of.ensures.number c.page_of.ensures.small c.index_mut-page.ensures.value
    c.remove.ensures.ok c.remove.ensures.err (joined-remove (items_of pages) c.self.invariant c.args.key.now)

pub invariant_of-self : goal.invariant_of-self
invariant_of-self c = (both c).0

pub returns-clause-ok : goal.returns-clause-ok
returns-clause-ok c =
    subst (λ (m : Items). OnOk c.remove.result (joined_pages (items_of (set c.self.inside.pages.items c.page_of.result c.remove.new.self)) ≡ remove m c.args.key.now)) c.self.view_is (both c).1
