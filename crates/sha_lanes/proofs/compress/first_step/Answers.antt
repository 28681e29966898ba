use Rattle.std.proofs.Common.{refl, sym, arith}
use Rattle.sha2.proofs.Schedule256.{rounds_first}
use Rattle.sha_lanes.specs.Lanes.{state_in, words_of}
use Rattle.sha_lanes.proofs.LaneLemmas.{slice_index-words}
use Rattle.sha_lanes.proofs.compress.first_step.Goals as goal

pub returns : goal.returns
returns c = λ j b h lane window held.
    let word = slice_index-words j c.args.w.now c.args.t (omega (arith, c.told-w)) in
    rounds_first b h (words_of j c.args.w.now) (state_in j c.args.v) c.args.t _ _ _ c.requires window held refl (sym word) (c.round.ensures j lane)
