use Rattle.std.proofs.Common.{take}
use Rattle.std.specs.Prelude.{flat_map}
use Rattle.wire.specs.Record.{Puts}
use Rattle.wire.proofs.counted.put_values.Given as goal

abbrev pub invariant-loop-value : goal.invariant-loop-value
invariant-loop-value g l = Puts g.S.Sink.holds (flat_map g.T.Record.encoding (take l.value-index l.values)) l.fn.sink l.sink
