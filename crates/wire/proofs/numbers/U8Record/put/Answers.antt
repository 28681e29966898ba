use Rattle.std.proofs.Common.{arith}
use Rattle.wire.specs.NumberLaws.{num-byte}
use Rattle.wire.proofs.numbers.U8Record.put.Goals as goal

pub returns : goal.returns
returns g c = rw (num-byte c.args.self.now (omega arith)) c.put.ensures
