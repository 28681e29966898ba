use Rattle.app.specs.Making.{stage, SettlesTimes}
use Rattle.app.proofs.making.settle.Given as goal

abbrev pub invariant-loop : goal.invariant-loop
invariant-loop g l = SettlesTimes l.counter (stage l.fn.world l.fn.past) (stage l.world l.past)
