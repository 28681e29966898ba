use Rattle.std.proofs.Common.{◌≡◌, true, subst, OnOk, ◌∙◌}
use Rattle.std.specs.FinMap.{remove}
use Rattle.std.proofs.lemmas.List.{length-set}
use Rattle.items.specs.Map.{Items}
use Rattle.pages.specs.Page.{page_number}
use Rattle.pages.specs.Group.{IsEditAt}
use Rattle.pages.specs.Joined.{ArePages, joined_pages, items_of}
use Rattle.pages.proofs.JoinedLemmas.{joined-remove}
use Rattle.pages.proofs.GroupLemmas.{edited-whole, kept-written}
use Rattle.pages.proofs.grouped_pages.GroupedPages.remove.Goals as goal

whole : (c : goal.After-remove) → IsEditAt c.page_of-number.result c.self.inside.groups c.remove.new.self × ArePages (items_of c.remove.new.self)
    × OnOk c.remove.result (joined_pages (items_of c.remove.new.self) ≡ remove (joined_pages (items_of c.self.inside.groups)) c.args.key.now)
whole c =
    let pages = c.self.inside.groups in
    edited-whole c.remove.result pages c.remove.new.self c.page_of-number.result (page_number c.args.key.now)
    (λ (m : Items). remove m c.args.key.now) (remove (joined_pages (items_of pages)) c.args.key.now)
    c.self.invariant.0.are c.page_of-number.ensures.number c.page_of-number.ensures.small
    c.remove.ensures.others c.remove.ensures.ok c.remove.ensures.err (joined-remove (items_of pages) c.self.invariant.0.are c.args.key.now)

pub invariant_of-self : goal.invariant_of-self
invariant_of-self c = (
  kept-written c.self.inside.layout c.self.inside.groups c.remove.new.self _ c.self.inside.written c.page_of-number.result c.self.invariant.0 c.self.invariant.1
      c.page_of-number.ensures.small (whole c).0 (whole c).1,
  length-set c.self.inside.written _ true ∙ c.self.invariant.1,
)

pub returns-clause-ok : goal.returns-clause-ok
returns-clause-ok c =
    subst (λ (m : Items). OnOk c.remove.result (joined_pages (items_of c.remove.new.self) ≡ remove m c.args.key.now)) c.self.view_is (whole c).2
