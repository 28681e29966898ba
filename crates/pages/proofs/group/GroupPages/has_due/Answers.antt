use Rattle.std.proofs.Common.{◌≡◌, length, sym, ap, ◌∙◌, arith}
use Rattle.pages.specs.declared.group.TheConstants.{GROUP_PAGES}
use Rattle.pages.proofs.StillLemmas.{still-read, still-next}
use Rattle.pages.proofs.group.GroupPages.has_due.Goals as goal

pub loop-index-preserved : goal.loop-index-preserved
loop-index-preserved c =
    let long : length c.args.self.now ≡ GROUP_PAGES = ap length (sym c.self.view_is) ∙ c.self.invariant in
    still-next c.args.self.now c.args.moment c.loop-index.index c.loop-index.invariant
    (still-read c.args.self.now c.args.moment c.loop-index.index c.page.result.now (omega (arith, c.loop-index-test.true, long)) c.page.ensures (c.has_due.ensures.none c.if-has_due.false))

pub returns : goal.returns
returns c e = λ i l. c.loop-index.invariant i (omega (arith, l, c.loop-index-test.false))
