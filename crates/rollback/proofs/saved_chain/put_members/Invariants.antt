use Rattle.std.proofs.Common.{take}
use Rattle.std.specs.Prelude.{flat_map}
use Rattle.wire.specs.Record.{Puts}
use Rattle.rollback.proofs.saved_chain.put_members.Given as goal

abbrev pub invariant-loop-member : goal.invariant-loop-member
invariant-loop-member g l = Puts g.S.Sink.holds (flat_map (λ text. text) (take l.member-index l.members)) l.fn.sink l.sink
