use Rattle.std.proofs.Common.{◌≡◌, ℕ, ◌<◌}
use Rattle.sha2.specs.Sha256.{hash_after}
use Rattle.sha_lanes.specs.Lanes.{state_in, text_of}
use Rattle.sha_lanes.proofs.message.absorb.Given as goal

abbrev pub invariant-each_block : goal.invariant-each_block
invariant-each_block l = (j : ℕ) → j < 4
    → state_in j l.state ≡ hash_after (state_in j l.fn.state) (text_of j l.first l.second l.third l.fourth) l.i
