use Rattle.std.proofs.Common.{◌≡◌, List, ℕ, ◌+◌, ◌-◌, ◌*◌, take, drop, refl, ◌∙◌, arith}
use Rattle.sha2.specs.Sha256.{hash_after}
use Rattle.sha_lanes.specs.Lanes.{state_in, text_of}
use Rattle.sha_lanes.proofs.Blocks.{hash_after_more}
use Rattle.sha_lanes.proofs.LaneLemmas.{text_of-each}
use Rattle.sha_lanes.proofs.message.absorb.Goals as goal

pub each_block-init : goal.each_block-init
unfolding hash_after
each_block-init c j lane = refl

pub each_block-preserved : goal.each_block-preserved
each_block-preserved c j lane =
    let a = c.args.first.now in
    let b = c.args.second.now in
    let i = c.each_block.i in
    let from : ℕ = 64 * i in
    let x = text_of j a b c.args.third.now c.args.fourth.now in
    let part = λ (l : List ℕ). take (from + 64 - from) (drop from l) in
    let width : from + 64 - from ≡ 64 = omega arith in
    let place : 64 * i ≡ i * 64 = omega arith in
    let block = text_of-each part a b c.args.third.now c.args.fourth.now j lane in
    c.compress4-next.ensures j _ lane (c.load-words.ensures j lane)
    ∙ hash_after_more (state_in j c.args.state) x _ _ i (c.each_block.invariant j lane) (block ∙ rw (width, place) refl)
