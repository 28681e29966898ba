use Rattle.std.proofs.Common.{refl, ◌∙◌, arith}
use Rattle.ensemble.proofs.Logs.{none_came, more_came}
use Rattle.ensemble.proofs.ensemble.Ensemble.deliver_all.Goals as goal

pub loop-init : goal.loop-init
loop-init c = record {
  asked = refl;
  found = refl;
  answered = none_came _ _ _ _ _ _ refl refl refl;
  counted = omega arith;
  size = refl;
  waits = λ before. before;
}

pub loop-preserved : goal.loop-preserved
loop-preserved c = record {
  asked = c.deliver_to.ensures.asked ∙ c.loop.invariant.asked;
  found = c.deliver_to.ensures.found ∙ c.loop.invariant.found;
  answered = more_came _ _ _ _ _ _ _ _ _ c.loop.invariant.answered c.deliver_to.ensures.answered;
  counted = (let before = c.loop.invariant.counted in let after = c.deliver_to.ensures.counted in omega (arith, before, after));
  size = c.deliver_to.ensures.size ∙ c.loop.invariant.size;
  waits = λ before. c.deliver_to.ensures.waits (c.loop.invariant.waits before);
}

pub returns-then-not-deliver_to-clause-asked : goal.returns-then-not-deliver_to-clause-asked
returns-then-not-deliver_to-clause-asked c = c.deliver_to.ensures.asked ∙ c.loop.invariant.asked

pub returns-then-not-deliver_to-clause-found : goal.returns-then-not-deliver_to-clause-found
returns-then-not-deliver_to-clause-found c = c.deliver_to.ensures.found ∙ c.loop.invariant.found

pub returns-then-not-deliver_to-clause-answered : goal.returns-then-not-deliver_to-clause-answered
returns-then-not-deliver_to-clause-answered c = more_came _ _ _ _ _ _ _ _ _ c.loop.invariant.answered c.deliver_to.ensures.answered

pub returns-then-not-deliver_to-clause-size : goal.returns-then-not-deliver_to-clause-size
returns-then-not-deliver_to-clause-size c = c.deliver_to.ensures.size ∙ c.loop.invariant.size
