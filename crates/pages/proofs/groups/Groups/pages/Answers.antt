use Rattle.std.proofs.Common.{◌≡◌, ◌≤◌, [], ◌∷◌, ◌++◌, length, sym, ap, ◌∙◌, arith}
use Rattle.std.proofs.lemmas.List.{take_more, take_all}
use Rattle.pages.specs.Page.{page_count}
use Rattle.pages.proofs.GroupLemmas.{length-in}
use Rattle.pages.proofs.groups.Groups.pages.Goals as goal

pub loop-number-preserved : goal.loop-number-preserved
loop-number-preserved c =
    let long : length c.args.self.now ≡ page_count = ap length (sym c.self.view_is) ∙ length-in c.self.inside.groups.items c.self.invariant in
    let copy = c.in_ok-clone.ensures.cases ∙ c.page.ensures in
    c.in_ok-push.ensures.items ∙ (λ j. c.loop-number.invariant j ++ copy j ∷ [])
    ∙ sym (take_more c.args.self.now c.loop-number.number c.page.result.now (omega (arith, c.loop-number-test.true, long)))

pub returns : goal.returns
returns c =
    let long : length c.args.self.now ≡ page_count = ap length (sym c.self.view_is) ∙ length-in c.self.inside.groups.items c.self.invariant in
    let all : length c.args.self.now ≤ c.loop-number.number = omega (arith, c.loop-number-test.false, long) in
    c.loop-number.invariant ∙ take_all c.loop-number.number c.args.self.now all
