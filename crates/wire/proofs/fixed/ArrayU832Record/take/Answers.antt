use Rattle.std.proofs.Common.{arith}
use Rattle.wire.specs.KeyLaws.{fixed_at, short_of_fixed}
use Rattle.wire.proofs.fixed.ArrayU832Record.take.Goals as goal

pub returns-in-Some : goal.returns-in-Some
returns-in-Some c =
    let chunk = c.in-Some.ensures.cases in
    (tt, rw (chunk.0, chunk.1) (fixed_at 32 c.args.bytes.now (λ i. omega (arith, c.type_inv.bytes i)) (omega arith)))

pub returns-in-None : goal.returns-in-None
returns-in-None c = short_of_fixed 31 c.args.bytes.now (λ i. omega (arith, c.type_inv.bytes i)) c.in-None.ensures.cases
