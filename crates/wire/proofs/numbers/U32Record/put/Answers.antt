use Rattle.std.proofs.Common.{arith}
use Rattle.std.specs.Int.{w32}
use Rattle.wire.specs.NumberLaws.{num-is}
use Rattle.wire.proofs.numbers.U32Record.put.Goals as goal

pub returns : goal.returns
returns g c = rw (num-is w32 c.args.self.now (omega arith), ← c.to_be_bytes.ensures) c.put.ensures
