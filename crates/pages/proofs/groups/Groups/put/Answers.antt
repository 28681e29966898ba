use Rattle.std.proofs.Common.{◌≡◌, ◌<◌, ◌/◌, ◌%◌, List, [], length, get_or, set, ap, ◌∙◌, arith, subst}
use Rattle.std.specs.FinMap.{insert}
use Rattle.std.proofs.lemmas.List.{get_or_default}
use Rattle.pages.specs.Page.{PageState}
use Rattle.pages.specs.Group.{page_at, pages_in, no_page, IsEditAt}
use Rattle.pages.proofs.GroupLemmas.{group-edited, page-of}
use Rattle.pages.proofs.groups.Groups.put.Goals.{In_ok-put}
use Rattle.pages.proofs.groups.Groups.put.Goals as goal

-- the group before, as it is read
before : (c : In_ok-put) → c.index_mut-group.result.now ≡ get_or c.self.inside.groups.items (c.args.number / 16) []
before c =
    let within : c.args.number / 16 < length c.self.inside.groups.items = omega (arith, c.requires, c.self.invariant.count) in
    c.index_mut-group.ensures.value ∙ get_or_default c.self.inside.groups.items (c.args.number / 16) c.index_mut-group.result.now [] within

whole : (c : In_ok-put) → IsEditAt c.args.number (pages_in c.self.inside.groups.items) (pages_in (set c.self.inside.groups.items (c.args.number / 16) c.put.new.self))
    × (page_at (pages_in (set c.self.inside.groups.items (c.args.number / 16) c.put.new.self)) c.args.number ≡ page_at c.put.new.self (c.args.number % 16))
whole c =
    group-edited c.self.inside.groups.items c.args.number c.put.new.self c.self.invariant c.requires
    (subst (λ (ps : List PageState). IsEditAt (c.args.number % 16) ps c.put.new.self) (before c) c.in_ok-put.ensures.others)

pub returns-clause-others : goal.returns-clause-others
returns-clause-others c =
    subst (λ (ps : List PageState). IsEditAt c.args.number ps (pages_in (set c.self.inside.groups.items (c.args.number / 16) c.put.new.self))) c.self.view_is (whole c).0

pub returns-clause-ok : goal.returns-clause-ok
returns-clause-ok c =
    ap (λ (p : PageState). p.items) (whole c).1 ∙ c.in_ok-put.ensures.ok
    ∙ ap (λ (p : PageState). insert p.items c.args.key c.args.item)
    (ap (λ (ps : List PageState). page_at ps (c.args.number % 16)) (before c) ∙ page-of c.self.inside.groups.items c.args.number no_page c.self.invariant c.requires
    ∙ ap (λ (ps : List PageState). page_at ps c.args.number) c.self.view_is)
