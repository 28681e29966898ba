use Rattle.std.proofs.Common.{◌≡◌, length, refl, sym, ap, ◌∙◌, arith}
use Rattle.std.proofs.lemmas.List.{length-set, get_or_default}
use Rattle.pages.specs.Page.{PageState}
use Rattle.pages.specs.Layout.{digest_in}
use Rattle.pages.specs.Group.{page_at, no_page}
use Rattle.pages.specs.declared.group.TheConstants.{GROUP_PAGES}
use Rattle.pages.proofs.StateLemmas.{next-value}
use Rattle.pages.proofs.group.GroupPages.digests.Goals as goal

pub loop-index-init : goal.loop-index-init
loop-index-init c = (refl, λ k l. absurd (omega (arith, l)))

pub loop-index-preserved : goal.loop-index-preserved
loop-index-preserved c =
    let long : length c.args.self.now ≡ GROUP_PAGES = ap length (sym c.self.view_is) ∙ c.self.invariant in
    let page = c.page.result.now in
    let read = c.page.ensures ∙ get_or_default c.args.self.now c.loop-index.index page no_page (omega (arith, c.loop-index-test.true, long)) in (
      length-set c.loop-index.digests c.loop-index.index c.digest.result ∙ c.loop-index.invariant.0,
      next-value (λ k. digest_in (page_at c.args.self.now k).layout (page_at c.args.self.now k).items) c.loop-index.digests c.loop-index.index c.digest.result
          (omega (arith, c.loop-index-test.true, c.loop-index.invariant.0)) (c.digest.ensures ∙ ap (λ (p : PageState). digest_in p.layout p.items) read) c.loop-index.invariant.1,
    )

pub returns : goal.returns
returns c = λ i l. c.loop-index.invariant.1 i (omega (arith, l, c.loop-index-test.false))
