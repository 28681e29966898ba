use Rattle.world.proofs.WorkLemmas.{NoWorkBelow}
use Rattle.world.proofs.world.World.next_work.Given as goal

abbrev pub invariant-loop-id : goal.invariant-loop-id
invariant-loop-id l = NoWorkBelow l.fn.self.executors l.id
