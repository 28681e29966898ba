use Rattle.std.proofs.Common.{◌≡◌, ◌<◌, ◌++◌, ◌∷◌, [], ℕ, None, length, map, sym, ap, ◌∙◌, arith}
use Rattle.std.specs.Prelude.{◌%◌}
use Rattle.std.specs.List.{range_with_len}
use Rattle.std.proofs.Math.Nat.{mod-lt}
use Rattle.std.proofs.lemmas.List.{get_or_default, map_push}
use Rattle.std.proofs.lemmas.List.FromFn.{map-range_with_len_more}
use Rattle.token.specs.declared.tree.TheConstants.{OLD_PAGES}
use Rattle.pages.specs.Page.{PageState, page_count}
use Rattle.pages.specs.Joined.{items_of}
use Rattle.pages.specs.Old.{page_over_old, part_given}
use Rattle.pages.proofs.StateLemmas.{items-at}
use Rattle.pages.proofs.old.pages_over.Goals as goal

pub loop-number-preserved : goal.loop-number-preserved
loop-number-preserved c =
    let n = c.loop-number.number in
    let before = c.args.before.now.items in
    let given = c.args.given.now in
    let within : n < length before = omega (arith, c.loop-number-test.true, c.requires.count) in
    let low : n % OLD_PAGES < OLD_PAGES = mod-lt n (omega arith) in
    let there : n % OLD_PAGES < length given = omega (arith, low, c.requires.given.count) in
    let is = c.index-given-number.is ∙ get_or_default given (n % OLD_PAGES) c.index-given-number.result None there in
    let page = items-at before n c.index.result.now within c.index.ensures in
    let here : c.in_ok-page.page.items ≡ page_over_old (items_of c.args.before.now.items) c.args.given.now c.loop-number.number =
    c.in_ok-page.ensures ∙ (λ i. part_given c.loop-number.number (page i) (is i)) in
    ap items_of c.in_ok-push.ensures.items ∙ map_push (λ (page : PageState). page.items) c.loop-number.pages.items c.in_ok-page.page
    ∙ (λ j. c.loop-number.invariant j ++ here j ∷ []) ∙ sym (map-range_with_len_more (page_over_old (items_of c.args.before.now.items) given) 0 n n (omega arith))

pub returns : goal.returns
returns c =
    let all : c.loop-number.number ≡ page_count = omega (arith, c.loop-number-test.false, c.loop-number.auto.number-end) in
    c.loop-number.invariant ∙ ap (λ (n : ℕ). map (page_over_old (items_of c.args.before.now.items) c.args.given.now) (range_with_len 0 n)) all
