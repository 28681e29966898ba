use Rattle.std.proofs.Common.{◌≡◌, [], ◌∷◌, ◌++◌, map, sym, ap, ◌∙◌, arith}
use Rattle.std.specs.List.{range_with_len}
use Rattle.std.proofs.lemmas.List.FromFn.{map-range_with_len_more}
use Rattle.pages.specs.Page.{page_digest_in, page_count}
use Rattle.transfer.proofs.need.digests_of.Goals as goal

pub loop-number-preserved : goal.loop-number-preserved
loop-number-preserved c =
    c.in_ok-push.ensures.items
    ∙ ((λ i. c.loop-number.invariant i ++ c.digest.ensures i ∷ [])
    ∙ sym (map-range_with_len_more (page_digest_in c.args.pages.now.layout c.args.pages.now.items) 0 c.loop-number.number c.loop-number.number (omega arith)))

pub returns : goal.returns
returns c =
    let all : c.loop-number.number ≡ page_count = omega (arith, c.loop-number-test.false) in
    c.loop-number.invariant ∙ ap (λ k. map (page_digest_in c.args.pages.now.layout c.args.pages.now.items) (range_with_len 0 k)) all
