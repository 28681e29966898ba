use Rattle.std.proofs.Common.{◌≡◌, ◌<◌, ◌≤◌, length, ap, ◌∙◌, arith}
use Rattle.std.specs.FinMap.{entries}
use Rattle.std.proofs.lemmas.List.{length-map, take_all}
use Rattle.items.specs.Map.{Items}
use Rattle.pages.specs.Page.{PageState, page_count, item_count}
use Rattle.pages.specs.Joined.{items_of}
use Rattle.pages.proofs.CountLemmas.{count-next, count-joined}
use Rattle.pages.proofs.StateLemmas.{items-at, length-states}
use Rattle.pages.proofs.own_pages.count_of.Goals as goal

pub loop-number-preserved : goal.loop-number-preserved
loop-number-preserved c =
    let pages = c.args.pages.now.items in
    let n = c.loop-number.number in
    let many : length c.args.pages.now.items ≡ page_count = length-states pages c.requires in
    let page = items-at pages n c.index.result.now (omega (arith, c.loop-number-test.true, many)) c.index.ensures in
    let within : c.loop-number.number < length (items_of c.args.pages.now.items) = omega (arith, c.loop-number-test.true, many, length-map pages (λ (a : PageState). a.items)) in
    let more = count-next (items_of pages) n within in
    (omega (arith, c.loop-number.invariant.0, more, c.len-len.ensures.len, ap (λ (m : Items). length (entries m)) page), omega (arith, c.loop-number.invariant.1, c.len-len.ensures.few))

pub returns : goal.returns
returns c =
    let pages = items_of c.args.pages.now.items in
    let many = c.requires.0 in
    let all : length (items_of c.args.pages.now.items) ≤ c.loop-number.number = omega (arith, c.loop-number-test.false, many) in
    c.loop-number.invariant.0 ∙ ap item_count (take_all c.loop-number.number pages all) ∙ count-joined pages c.requires
