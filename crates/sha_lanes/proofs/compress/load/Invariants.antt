use Rattle.std.proofs.Common.{◌≡◌, ℕ, ◌*◌, ◌<◌, length}
use Rattle.sha2.specs.Sha256.{word_at}
use Rattle.sha_lanes.specs.Lanes.{lane_at, text_of}
use Rattle.sha_lanes.proofs.compress.load.Given as goal

abbrev pub invariant-words : goal.invariant-words
invariant-words l = (length l.words ≡ 16)
    × ((j k : ℕ) → j < 4 → k < l.i → lane_at l.words k j ≡ word_at (text_of j l.first l.second l.third l.fourth) (4 * k))
