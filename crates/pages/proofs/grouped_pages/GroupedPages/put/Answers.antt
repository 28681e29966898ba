use Rattle.std.proofs.Common.{◌≡◌, true, subst, OnOk, ◌∙◌}
use Rattle.std.specs.FinMap.{insert}
use Rattle.std.proofs.lemmas.List.{length-set}
use Rattle.items.specs.Map.{Items}
use Rattle.pages.specs.Page.{page_number}
use Rattle.pages.specs.Group.{IsEditAt}
use Rattle.pages.specs.Joined.{ArePages, joined_pages, items_of}
use Rattle.pages.proofs.JoinedLemmas.{joined-insert}
use Rattle.pages.proofs.GroupLemmas.{edited-whole, kept-written}
use Rattle.pages.proofs.grouped_pages.GroupedPages.put.Goals as goal

whole : (c : goal.After-put) → IsEditAt c.page_of-number.result c.self.inside.groups c.put.new.self × ArePages (items_of c.put.new.self)
    × OnOk c.put.result (joined_pages (items_of c.put.new.self) ≡ insert (joined_pages (items_of c.self.inside.groups)) c.args.key c.args.item)
whole c =
    let pages = c.self.inside.groups in
    edited-whole c.put.result pages c.put.new.self c.page_of-number.result (page_number c.args.key)
    (λ (m : Items). insert m c.args.key c.args.item) (insert (joined_pages (items_of pages)) c.args.key c.args.item)
    c.self.invariant.0.are c.page_of-number.ensures.number c.page_of-number.ensures.small
    c.put.ensures.others c.put.ensures.ok c.put.ensures.err (joined-insert (items_of pages) c.self.invariant.0.are c.args.key c.args.item)

pub invariant_of-self : goal.invariant_of-self
invariant_of-self c = (
  kept-written c.self.inside.layout c.self.inside.groups c.put.new.self _ c.self.inside.written c.page_of-number.result c.self.invariant.0 c.self.invariant.1
      c.page_of-number.ensures.small (whole c).0 (whole c).1,
  length-set c.self.inside.written _ true ∙ c.self.invariant.1,
)

pub returns-clause-ok : goal.returns-clause-ok
returns-clause-ok c =
    subst (λ (m : Items). OnOk c.put.result (joined_pages (items_of c.put.new.self) ≡ insert m c.args.key c.args.item)) c.self.view_is (whole c).2
