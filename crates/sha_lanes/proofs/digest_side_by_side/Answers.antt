use Rattle.std.proofs.Common.{◌∙◌, arith, refl}
use Rattle.sha_lanes.proofs.Blocks.{digest_in_parts}
use Rattle.sha_lanes.proofs.digest_side_by_side.Goals as goal

pub returns : goal.returns
returns c =
    let q = c.saturating_sub-whole.result in
    let at = c.saturating_sub-whole.ensures in
    let a = c.digest_of.ensures
    ∙ digest_in_parts c.args.first.now _ _ _ _ q c.args.count c.requires.first at c.tail_of-first_tail.ensures
    (c.initial_state.ensures 0 (omega arith)) (c.absorb-before.ensures 0 (omega arith)) (c.absorb-state.ensures 0 (omega arith)) in
    let b = c.digest_of-2.ensures
    ∙ digest_in_parts c.args.second.now _ _ _ _ q c.args.count c.requires.second at c.tail_of-second_tail.ensures
    (c.initial_state.ensures 1 (omega arith)) (c.absorb-before.ensures 1 (omega arith)) (c.absorb-state.ensures 1 (omega arith)) in
    let c' = c.digest_of-3.ensures
    ∙ digest_in_parts c.args.third.now _ _ _ _ q c.args.count c.requires.third at c.tail_of-third_tail.ensures
    (c.initial_state.ensures 2 (omega arith)) (c.absorb-before.ensures 2 (omega arith)) (c.absorb-state.ensures 2 (omega arith)) in
    let d = c.digest_of-4.ensures
    ∙ digest_in_parts c.args.fourth.now _ _ _ _ q c.args.count c.requires.fourth at c.tail_of-fourth_tail.ensures
    (c.initial_state.ensures 3 (omega arith)) (c.absorb-before.ensures 3 (omega arith)) (c.absorb-state.ensures 3 (omega arith)) in
    rw (a, b, c', d) refl
