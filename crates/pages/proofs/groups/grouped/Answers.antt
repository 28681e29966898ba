use Rattle.std.proofs.Common.{◌≡◌, ◌-◌, ◌+◌, List, sym, arith, subst}
use Rattle.pages.specs.Page.{PageState}
use Rattle.pages.proofs.GroupLemmas.{IsGrouped, grouped-none, grouped-next, grouped-long}
use Rattle.pages.proofs.groups.grouped.Goals as goal

pub loop-left-init : goal.loop-left-init
loop-left-init c =
    subst (λ (gs : List (List PageState)). IsGrouped c.args.pages.items c.args.pages.items gs 16) (sym c.in_ok-groups.ensures.items) (grouped-none c.args.pages.items c.requires)

pub split_off-requires : goal.split_off-requires
split_off-requires c =
    omega (
      arith,
      c.loop-left.rest.ok.0,
      c.loop-left-test.true,
      grouped-long c.args.pages.items c.loop-left.rest.items c.loop-left.groups.items c.loop-left.left c.loop-left.invariant c.requires,
    )

pub loop-left-preserved : goal.loop-left-preserved
loop-left-preserved c =
    let again : c.loop-left.left - 1 + 1 ≡ c.loop-left.left = omega (arith, c.loop-left-test.true) in
    subst (λ (gs : List (List PageState)). IsGrouped c.args.pages.items c.split_off.new.self.items gs (c.loop-left.left - 1)) (sym c.in_ok-insert.ensures.items)
    (grouped-next c.args.pages.items c.loop-left.rest.items c.split_off.new.self.items c.in_ok-last.last.items c.in_ok-of_pages.field-0 c.loop-left.groups.items c.loop-left.left
    (c.loop-left.left - 1) _ c.loop-left.invariant c.requires again (omega arith) c.in_ok-last.ensures.items c.in_ok-last.ensures.tail c.in_ok-of_pages.ensures)
