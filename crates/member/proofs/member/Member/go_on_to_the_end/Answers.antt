use Rattle.std.proofs.Common.{refl, ◌∙◌, arith}
use Rattle.member.proofs.Works.{none_worked, more_worked, none_leave, more_leave}
use Rattle.member.proofs.member.Member.go_on_to_the_end.Goals as goal

pub loop-init : goal.loop-init
loop-init g c = record {
  worked = none_worked c.args.moment _ _ _ _ refl refl;
  whose = refl;
  leaving = none_leave _ _ refl;
  counted = omega arith;
}

pub loop-preserved : goal.loop-preserved
loop-preserved g c = record {
  worked = more_worked c.args.moment _ _ _ _ _ _ c.loop.invariant.worked c.go_on.ensures.worked;
  whose = c.go_on.ensures.whose ∙ c.loop.invariant.whose;
  leaving = more_leave _ _ _ c.loop.invariant.leaving c.go_on.ensures.leaving;
  counted = omega (arith, c.loop.invariant.counted, c.go_on.ensures.counted);
}

pub returns-then-not-go_on-clause-worked : goal.returns-then-not-go_on-clause-worked
returns-then-not-go_on-clause-worked g c = more_worked c.args.moment _ _ _ _ _ _ c.loop.invariant.worked c.go_on.ensures.worked

pub returns-then-not-go_on-clause-whose : goal.returns-then-not-go_on-clause-whose
returns-then-not-go_on-clause-whose g c = c.go_on.ensures.whose ∙ c.loop.invariant.whose

pub returns-then-not-go_on-clause-leaving : goal.returns-then-not-go_on-clause-leaving
returns-then-not-go_on-clause-leaving g c = more_leave _ _ _ c.loop.invariant.leaving c.go_on.ensures.leaving
