use Rattle.std.proofs.Common.{◌≡◌, ◌+◌, ◌%◌, arith, refl}
use Rattle.sha_lanes.proofs.LaneLemmas.{slice_index-words, words_of-set}
use Rattle.sha_lanes.proofs.compress.next_word.Goals as goal

pub returns-clause-value : goal.returns-clause-value
returns-clause-value c = λ j lane.
    let w = c.args.w.now in
    let p = c.args.place in
    let at : p % 16 ≡ p = omega arith in
    rw (
      slice_index-words j w ((p + 14) % 16) (omega (arith, c.told-w)),
      slice_index-words j w ((p + 9) % 16) (omega (arith, c.told-w)),
      slice_index-words j w ((p + 1) % 16) (omega (arith, c.told-w)),
      at,
      slice_index-words j w p (omega (arith, c.told-w)),
      c.add-word.ensures j lane,
      c.add.ensures j lane,
      c.add-near.ensures j lane,
      c.small_sigma1.ensures j lane,
      c.small_sigma0.ensures j lane,
    ) refl

pub returns-clause-window : goal.returns-clause-window
returns-clause-window c = λ j lane. words_of-set j c.args.w.now c.args.place c.add-word.result
