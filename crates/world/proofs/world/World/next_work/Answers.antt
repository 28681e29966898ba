use Rattle.std.proofs.Common.{rules, arith}
use Rattle.world.proofs.WorkLemmas.{none_at_one_more, none_at_all}
use Rattle.world.proofs.world.World.next_work.Goals as goal

pub loop-id-init : goal.loop-id-init
loop-id-init c id lt = absurd (omega (arith, lt))

pub returns-in-Some : goal.returns-in-Some
returns-in-Some c = (c.loop-id.id, c.loop-id.invariant, c.in-Some.ensures)

pub loop-id-preserved : goal.loop-id-preserved
loop-id-preserved c = none_at_one_more c.args.self.now.executors c.loop-id.id c.loop-id.invariant c.in_default.ensures

pub returns : goal.returns
returns c = none_at_all c.args.self.now.executors c.loop-id.id (search rules) c.loop-id.invariant
