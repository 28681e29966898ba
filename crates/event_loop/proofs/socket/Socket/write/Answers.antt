use Rattle.event_loop.proofs.SocketLemmas.{writes_then, writes_nothing}
use Rattle.event_loop.proofs.socket.Socket.write.Goals as goal

pub returns-then-may_be_written-clause-writes : goal.returns-then-may_be_written-clause-writes
returns-then-may_be_written-clause-writes g c = writes_then _ _ _ c.write_once.ensures.writes c.write_on.ensures

pub returns-else-may_be_written-clause-writes : goal.returns-else-may_be_written-clause-writes
returns-else-may_be_written-clause-writes g c = writes_nothing _
