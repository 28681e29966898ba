use Rattle.std.proofs.Common.{ℕ, List, ◌*◌, ◌<◌}
use Rattle.sha2.specs.Sha256.{IsRoundsAt}
use Rattle.sha_lanes.specs.Lanes.{AreWords, state_in, words_of}
use Rattle.sha_lanes.proofs.compress.compress4.Given as goal

abbrev pub invariant-schedule : goal.invariant-schedule
invariant-schedule l = (j : ℕ) (b : List ℕ) → j < 4 → AreWords (words_of j l.fn.w) b
    → IsRoundsAt b (state_in j l.state) (words_of j l.w) (state_in j l.v) (16 * l.turn)
