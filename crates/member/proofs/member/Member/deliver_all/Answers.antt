use Rattle.std.proofs.Common.{refl, ◌∙◌, arith}
use Rattle.member.proofs.Works.{none_worked, more_worked, none_leave, more_leave}
use Rattle.member.proofs.member.Member.deliver_all.Goals as goal

pub loop-init : goal.loop-init
loop-init c = record {
  worked = none_worked c.args.moment _ _ _ _ refl refl;
  whose = refl;
  leaving = none_leave _ _ refl;
  counted = omega arith;
}

pub loop-preserved : goal.loop-preserved
loop-preserved c = record {
  worked = more_worked c.args.moment _ _ _ _ _ _ c.loop.invariant.worked c.deliver_early.ensures.worked;
  whose = c.deliver_early.ensures.whose ∙ c.loop.invariant.whose;
  leaving = more_leave _ _ _ c.loop.invariant.leaving c.deliver_early.ensures.leaving;
  counted = omega (arith, c.loop.invariant.counted, c.deliver_early.ensures.counted);
}

pub returns-then-not-deliver_early-clause-worked : goal.returns-then-not-deliver_early-clause-worked
returns-then-not-deliver_early-clause-worked c = more_worked c.args.moment _ _ _ _ _ _ c.loop.invariant.worked c.deliver_early.ensures.worked

pub returns-then-not-deliver_early-clause-whose : goal.returns-then-not-deliver_early-clause-whose
returns-then-not-deliver_early-clause-whose c = c.deliver_early.ensures.whose ∙ c.loop.invariant.whose

pub returns-then-not-deliver_early-clause-leaving : goal.returns-then-not-deliver_early-clause-leaving
returns-then-not-deliver_early-clause-leaving c = more_leave _ _ _ c.loop.invariant.leaving c.deliver_early.ensures.leaving
