use Rattle.std.proofs.Common.{◌≡◌, ◌<◌, List, length, get_or, set, ap, ◌∙◌, arith}
use Rattle.base.proofs.ListLemmas.{next-same, next-changed}
use Rattle.pages.specs.Page.{PageState, sealed_in}
use Rattle.pages.proofs.group.seal_all.Goals as goal

pub loop-page-preserved : goal.loop-page-preserved
loop-page-preserved c =
    let i = c.loop-page.page-index in
    let f = sealed_in c.args.layout in
    let more : c.loop-page.page-index < length c.args.pages.now.items =
    omega (arith, c.loop-page-test.true, c.loop-page.auto.page-items, ap length c.deref_mut-page-items.ensures.value) in
    let same : get_or c.loop-page.page-items c.loop-page.page-index c.page-item.result ≡ get_or c.args.pages.now.items c.loop-page.page-index c.page-item.result =
    ap (λ (xs : List PageState). get_or xs c.loop-page.page-index c.page-item.result) c.loop-page.invariant ∙ next-same f c.args.pages.now.items i c.page-item.result more in
    let new : c.seal.new.self ≡ sealed_in c.args.layout (get_or c.args.pages.now.items c.loop-page.page-index c.page-item.result) = c.in_ok-seal.ensures.ok ∙ ap f same in
    (λ j. set (c.loop-page.invariant j) c.loop-page.page-index (new j)) ∙ next-changed f c.args.pages.now.items i c.page-item.result more
