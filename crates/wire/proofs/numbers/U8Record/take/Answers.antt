use Rattle.std.proofs.Common.{arith}
use Rattle.std.specs.Int.{w8}
use Rattle.wire.specs.NumberLaws.{wide8, short_of, byte_at_front}
use Rattle.wire.proofs.numbers.U8Record.take.Goals as goal

pub returns-in-empty : goal.returns-in-empty
returns-in-empty c = short_of w8 wide8 c.args.bytes.now (λ i. omega (arith, c.type_inv.bytes i)) (omega arith)

pub returns-in-len1-up : goal.returns-in-len1-up
returns-in-len1-up c = (tt, byte_at_front c.args.bytes.now (λ i. omega (arith, c.type_inv.bytes i)) (omega arith))
