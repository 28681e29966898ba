use Rattle.std.proofs.Common.{◌≡◌, ◌++◌, sym, ap, ◌∙◌, arith}
use Rattle.std.specs.Prelude.{flat_map}
use Rattle.std.specs.List.{range_with_len}
use Rattle.pages.specs.Page.{page_count}
use Rattle.pages.specs.Joined.{items_of, parts}
use Rattle.states.proofs.PageTextLemmas.{shared_page}
use Rattle.transfer.specs.Parcel.{differing}
use Rattle.transfer.proofs.PickLemmas.{flat_map_more}
use Rattle.transfer.proofs.answering.differing_from.Goals as goal

pub add_differing-requires-clause-is : goal.add_differing-requires-clause-is
add_differing-requires-clause-is c =
    let parted : items_of c.in_ok-shared.shared.items ≡ parts c.args.state.now.items = c.in_ok-shared.ensures ∙ ap parts (c.in_ok-open.ensures ∙ c.pages.ensures.items) in
    shared_page c.in_ok-shared.shared.items c.args.state.now.items c.loop-number.number c.index.result.now parted (omega (arith, c.loop-number-test.true)) c.index.ensures

pub loop-number-preserved : goal.loop-number-preserved
loop-number-preserved c =
    c.in_ok-add_differing.ensures
    ∙ (ap (λ xs. xs ++ differing c.args.state.now c.args.need.now c.loop-number.number) c.loop-number.invariant
    ∙ sym (flat_map_more (differing c.args.state.now c.args.need.now) c.loop-number.number))

pub returns : goal.returns
returns c =
    let all : c.loop-number.number ≡ page_count = omega (arith, c.loop-number-test.false) in
    c.loop-number.invariant ∙ ap (λ k. flat_map (differing c.args.state.now c.args.need.now) (range_with_len 0 k)) all
