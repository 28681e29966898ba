use Rattle.std.proofs.Common.{refl, ◌∙◌, arith}
use Rattle.ensemble.proofs.Logs.{none_came, more_came}
use Rattle.ensemble.proofs.Moments.{now_stays}
use Rattle.ensemble.proofs.ensemble.Ensemble.go_on_to_the_end.Goals as goal

pub loop-init : goal.loop-init
loop-init g c = record {
  asked = refl;
  found = refl;
  answered = none_came _ _ _ _ _ _ refl refl refl;
  counted = omega arith;
  size = refl;
  waits = λ before. before;
}

pub loop-preserved : goal.loop-preserved
loop-preserved g c = record {
  asked = c.go_on.ensures.asked ∙ c.loop.invariant.asked;
  found = c.go_on.ensures.found ∙ c.loop.invariant.found;
  answered = more_came _ _ _ _ _ _ _ _ _ c.loop.invariant.answered c.go_on.ensures.answered;
  counted = (let before = c.loop.invariant.counted in let after = c.go_on.ensures.counted in omega (arith, before, after));
  size = c.go_on.ensures.size ∙ c.loop.invariant.size;
  waits = λ before. c.go_on.ensures.waits (c.loop.invariant.waits before);
}

pub returns-then-not-go_on-clause-asked : goal.returns-then-not-go_on-clause-asked
returns-then-not-go_on-clause-asked g c = c.go_on.ensures.asked ∙ c.loop.invariant.asked

pub returns-then-not-go_on-clause-found : goal.returns-then-not-go_on-clause-found
returns-then-not-go_on-clause-found g c = c.go_on.ensures.found ∙ c.loop.invariant.found

pub returns-then-not-go_on-clause-answered : goal.returns-then-not-go_on-clause-answered
returns-then-not-go_on-clause-answered g c = more_came _ _ _ _ _ _ _ _ _ c.loop.invariant.answered c.go_on.ensures.answered

pub returns-then-not-go_on-clause-size : goal.returns-then-not-go_on-clause-size
returns-then-not-go_on-clause-size g c = c.go_on.ensures.size ∙ c.loop.invariant.size

pub go_on-requires : goal.go_on-requires
go_on-requires g c = (c.type_bounds.sync-R, now_stays c.args.self.now.order c.loop.self.order c.loop.invariant.answered.added c.args.moment c.loop.invariant.answered.ordered c.requires)
