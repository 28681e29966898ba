use Rattle.std.proofs.Common.{arith}
use Rattle.std.specs.Int.{w32}
use Rattle.wire.specs.NumberLaws.{below_of}
use Rattle.wire.proofs.Values.{list_of_values}
use Rattle.wire.proofs.counted.CountedRecord.take.Goals as goal

pub returns : goal.returns
returns g c =
    let count = below_of w32 c.in_ok-count.count c.args.bytes.now c.in_ok-count.rest.now (λ i. omega (arith, c.type_inv.bytes i)) c.in_ok-count.ensures.1 in
    list_of_values g.T.Record.fits g.T.Record.encoding c.args.bytes.now c.in_ok-count.rest.now c.in_ok-count.count (omega arith) c.in_ok-count.ensures.1 c.take_values.result c.take_values.ensures
