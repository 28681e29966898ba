use Rattle.std.proofs.Common.{◌≡◌, ◌<◌, ◌≤◌, length, sym, ap, ◌∙◌, arith}
use Rattle.std.specs.FinMap.{entries}
use Rattle.std.proofs.lemmas.List.{length-map, take_all}
use Rattle.items.specs.Map.{Items}
use Rattle.pages.specs.Page.{PageState, item_count}
use Rattle.pages.specs.Joined.{items_of}
use Rattle.pages.specs.declared.group.TheConstants.{GROUP_PAGES}
use Rattle.pages.proofs.CountLemmas.{count-next}
use Rattle.pages.proofs.StateLemmas.{items-at}
use Rattle.pages.proofs.group.GroupPages.len.Goals as goal

pub loop-index-preserved : goal.loop-index-preserved
loop-index-preserved c =
    let pages = c.args.self.now in
    let n = c.loop-index.index in
    let many : length c.args.self.now ≡ GROUP_PAGES = ap length (sym c.self.view_is) ∙ c.self.invariant in
    let page = items-at pages n c.page.result.now (omega (arith, c.loop-index-test.true, many)) c.page.ensures in
    let within : c.loop-index.index < length (items_of c.args.self.now) = omega (arith, c.loop-index-test.true, many, length-map pages (λ (a : PageState). a.items)) in
    let more = count-next (items_of pages) n within in
    (omega (arith, c.loop-index.invariant.0, more, c.len-len.ensures.len, ap (λ (m : Items). length (entries m)) page), omega (arith, c.loop-index.invariant.1, c.len-len.ensures.few))

pub returns-clause-len : goal.returns-clause-len
returns-clause-len c =
    let pages = items_of c.args.self.now in
    let many : length c.args.self.now ≡ GROUP_PAGES = ap length (sym c.self.view_is) ∙ c.self.invariant in
    let all : length (items_of c.args.self.now) ≤ c.loop-index.index = omega (arith, c.loop-index-test.false, many, length-map c.args.self.now (λ (a : PageState). a.items)) in
    c.loop-index.invariant.0 ∙ ap item_count (take_all c.loop-index.index pages all)
