use Rattle.event_loop.specs.Socket.{SocketWrites}
use Rattle.event_loop.proofs.socket.Socket.write_on.Given as goal

-- what was written so far is a beginning of what waited
abbrev pub invariant-loop : goal.invariant-loop
invariant-loop g l = SocketWrites l.fn.self l.self
