use Rattle.std.proofs.Common.{take}
use Rattle.std.specs.Prelude.{flat_map}
use Rattle.wire.specs.Record.{Puts}
use Rattle.token.specs.Told.{told_session}
use Rattle.token.proofs.told.put_each.Given as goal

-- those so far are written
abbrev pub invariant-loop-session : goal.invariant-loop-session
invariant-loop-session g l = Puts g.S.Sink.holds (flat_map told_session (take l.session-index l.sessions)) l.fn.sink l.sink
