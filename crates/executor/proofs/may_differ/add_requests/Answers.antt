use Rattle.std.proofs.Common.{arith, subst, List}
use Rattle.std.proofs.lemmas.List.{take_all}
use Rattle.sessions.specs.declared.request.Request.{Request}
use Rattle.executor.proofs.OtherPageLemmas.{CoversRequests, covers-next, within-both}
use Rattle.executor.proofs.may_differ.add_requests.Goals as goal

pub loop-request-init : goal.loop-request-init
loop-request-init c = record {
  covers = λ k d l. absurd (omega (arith, l));
  within = λ p there. there;
}

pub loop-request-preserved : goal.loop-request-preserved
loop-request-preserved c = record {
  covers = covers-next c.loop-request.pages c.add_command.new.self c.args.requests.now c.loop-request.request-index c.request-item.result c.loop-request-test.true c.request-item.is
      c.loop-request.invariant.covers c.add_command.ensures.within c.add_command.ensures.covers;
  within = within-both c.args.pages.now c.loop-request.pages c.add_command.new.self c.loop-request.invariant.within c.add_command.ensures.within;
}

pub returns-clause-covers : goal.returns-clause-covers
returns-clause-covers c =
    subst (λ (qs : List Request). CoversRequests c.loop-request.pages qs) (take_all c.loop-request.request-index c.args.requests.now (omega (arith, c.loop-request-test.false))) c.loop-request.invariant.covers
