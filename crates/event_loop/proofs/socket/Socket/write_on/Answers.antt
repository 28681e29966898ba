use Rattle.event_loop.proofs.SocketLemmas.{writes_then, writes_nothing}
use Rattle.event_loop.proofs.socket.Socket.write_on.Goals as goal

pub loop-init : goal.loop-init
loop-init g c = writes_nothing _

pub loop-preserved : goal.loop-preserved
loop-preserved g c = writes_then _ _ _ c.loop.invariant c.write_once.ensures.writes
