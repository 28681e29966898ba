use Rattle.wire.specs.Session.{sessions_text}
use Rattle.wire.proofs.session.SessionsRecord.put.Goals as goal

pub returns : goal.returns
unfolding sessions_text
returns g c = rw (← c.entries.ensures.entries) c.put_sessions.ensures
