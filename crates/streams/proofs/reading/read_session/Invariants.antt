use Rattle.streams.proofs.Passing.{IsSoFar}
use Rattle.streams.proofs.reading.read_session.Given as goal

abbrev pub invariant-loop : goal.invariant-loop
invariant-loop g l = IsSoFar g.R.ReadOnce.gives g.R.Read.remaining g.L.Listener.hears l.fn.input l.input l.fn.listener l.listener l.counter
