use Rattle.std.proofs.Common.{map, take, bit_xor}
use Rattle.sha2.specs.Hashers.{Holds256}
use Rattle.mac.proofs.mac.feed_key.Given as goal

abbrev pub invariant-loop-byte : goal.invariant-loop-byte
invariant-loop-byte l = Holds256 l.hasher (map (λ b. bit_xor b l.fn.pad) (take l.byte-index l.key))
