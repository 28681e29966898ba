use Rattle.std.proofs.Common.{ℕ, ◌-◌, List, ◌++◌, bit_xor, length, map, subst, arith}
use Rattle.std.proofs.lemmas.List.{take-replicate}
use Rattle.sha2.specs.Hashers.{Holds256}
use Rattle.mac.proofs.mac.padded.Goals as goal

pub returns : goal.returns
returns c =
    subst (λ (t : List ℕ). Holds256 c.update.new.self (map (λ b. bit_xor b c.args.pad) c.args.key.now ++ t))
    (take-replicate (64 - length c.args.key.now) 64 c.args.pad (omega arith)) (c.update.ensures _ c.feed_key.ensures)
