use Rattle.std.proofs.Common.{◌<◌, ◌≤◌, List, [], length, ap, ◌∙◌, arith}
use Rattle.std.proofs.lemmas.List.{get_or_default, take_all}
use Rattle.pages.specs.Page.{PageState, item_count}
use Rattle.pages.specs.Joined.{items_of}
use Rattle.pages.specs.Group.{pages_in}
use Rattle.pages.proofs.StillLemmas.{count-in-next}
use Rattle.pages.proofs.groups.count_in.Goals as goal

pub loop-group-preserved : goal.loop-group-preserved
loop-group-preserved c =
    let gs = c.args.groups.now.items in
    let n = c.loop-group.group in
    let within : c.loop-group.group < length c.args.groups.now.items = omega (arith, c.loop-group-test.true, c.requires) in
    let more = count-in-next gs n within in
    let here = c.len-count.ensures.len ∙ ap (λ (x : List PageState). item_count (items_of x)) (c.index.ensures ∙ get_or_default gs n c.index.result.now [] within) in
    (omega (arith, c.loop-group.invariant.0, more, here), omega (arith, c.loop-group.invariant.1, c.len-count.ensures.few))

pub returns : goal.returns
returns c =
    let all : length c.args.groups.now.items ≤ c.loop-group.group = omega (arith, c.loop-group-test.false, c.requires) in
    c.loop-group.invariant.0 ∙ ap (λ (x : List (List PageState)). item_count (items_of (pages_in x))) (take_all c.loop-group.group c.args.groups.now.items all)
