use Rattle.std.proofs.Common.{arith}
use Rattle.executor.proofs.ThroughLemmas.{all_ran}
use Rattle.executor.proofs.groups.next_place.Goals as goal

pub returns-clause-none : goal.returns-clause-none
returns-clause-none c e = all_ran c.args.group c.args.running.now (λ j l. c.loop-r.invariant j (omega (arith, l, c.loop-r-test.false)))
