use Rattle.std.proofs.Common.{◌∙◌, arith}
use Rattle.sha_lanes.proofs.LaneLemmas.{slice_index-words, length-words_of}
use Rattle.sha_lanes.proofs.compress.load.Goals as goal

pub returns : goal.returns
returns c j lane = (
  length-words_of j c.words.words ∙ c.words.invariant.0,
  λ k lt. slice_index-words j c.words.words k (omega (arith, c.words.invariant.0)) ∙ c.words.invariant.1 j k lane (omega arith),
)
