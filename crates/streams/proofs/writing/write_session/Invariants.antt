use Rattle.streams.proofs.Written.{IsSoFar}
use Rattle.streams.proofs.writing.write_session.Given as goal

abbrev pub invariant-loop : goal.invariant-loop
invariant-loop g l = IsSoFar g.W.WriteOnce.takes g.W.Write.contents l.text l.fn.output l.output l.sent l.counter
