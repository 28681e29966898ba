use Rattle.std.proofs.Common.{arith}
use Rattle.std.specs.Int.{w64}
use Rattle.wire.specs.NumberLaws.{wide64, short_of, read_at}
use Rattle.wire.proofs.numbers.U64Record.take.Goals as goal

pub returns-in-Some : goal.returns-in-Some
returns-in-Some c =
    let chunk = c.in-Some.ensures.cases in
    (tt, rw (c.from_be_bytes.ensures, chunk.0, chunk.1) (read_at w64 wide64 c.args.bytes.now (λ i. omega (arith, c.type_inv.bytes i)) (omega arith)))

pub returns-in-None : goal.returns-in-None
returns-in-None c = short_of w64 wide64 c.args.bytes.now (λ i. omega (arith, c.type_inv.bytes i)) c.in-None.ensures.cases
