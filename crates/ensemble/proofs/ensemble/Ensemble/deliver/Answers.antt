use Rattle.std.proofs.Common.{◌≡◌, subst}
use Rattle.ensemble.specs.Nodes.{size_of}
use Rattle.ensemble.specs.Ensemble.{EnsembleView, first_found}
use Rattle.ensemble.proofs.Sizes.{deliver_size}
use Rattle.ensemble.proofs.Ending.{goes_on_after}
use Rattle.ensemble.proofs.Continuing.{comes_silently, comes_and_answers}
use Rattle.ensemble.proofs.Collecting.{deliver_waits}
use Rattle.ensemble.specs.Calls.{AllCollected}
use Rattle.ensemble.proofs.ensemble.Ensemble.deliver.Goals as goal

pub invariant_of-self : goal.invariant_of-self
invariant_of-self c =
    let old : EnsembleView = record { nodes = c.self.inside.nodes; asked = c.self.inside.asked.items; answered = c.self.inside.answered.items; order = c.self.inside.order.items; refused = 0; found = first_found c.self.inside.found.items } in
    goes_on_after old.found old (record old { nodes = c.deliver.new.self }) (comes_silently old c.deliver.new.self c.deliver.result c.deliver.ensures.delivers c.in_err-answer.was) c.self.invariant

pub invariant_of-self-2 : goal.invariant_of-self-2
invariant_of-self-2 c =
    let old : EnsembleView = record { nodes = c.self.inside.nodes; asked = c.self.inside.asked.items; answered = c.self.inside.answered.items; order = c.self.inside.order.items; refused = 0; found = first_found c.self.inside.found.items } in
    goes_on_after old.found old (record old { nodes = c.deliver.new.self; answered = c.and-self-inside.result.items; order = c.and-self-inside-2.result.items })
    (comes_and_answers old c.deliver.new.self c.deliver.result c.in_ok-answer.answer c.and-self-inside.result.items c.and-self-inside-2.result.items c.deliver.ensures.delivers c.in_ok-answer.was c.and-self-inside.ensures c.and-self-inside-2.ensures) c.self.invariant

pub returns-in_err-answer-clause-size : goal.returns-in_err-answer-clause-size
returns-in_err-answer-clause-size c = subst (λ (e : EnsembleView). size_of c.deliver.new.self ≡ size_of e.nodes) c.self.view_is (deliver_size c.self.inside.nodes c.deliver.new.self c.deliver.result c.deliver.ensures.delivers)

pub returns-clause-size : goal.returns-clause-size
returns-clause-size c = subst (λ (e : EnsembleView). size_of c.deliver.new.self ≡ size_of e.nodes) c.self.view_is (deliver_size c.self.inside.nodes c.deliver.new.self c.deliver.result c.deliver.ensures.delivers)

pub returns-in_err-answer-clause-waits : goal.returns-in_err-answer-clause-waits
returns-in_err-answer-clause-waits c = subst (λ (e : EnsembleView). AllCollected e.nodes → AllCollected c.deliver.new.self) c.self.view_is (deliver_waits c.self.inside.nodes c.deliver.new.self c.deliver.result c.deliver.ensures.delivers)

pub returns-clause-waits : goal.returns-clause-waits
returns-clause-waits c = subst (λ (e : EnsembleView). AllCollected e.nodes → AllCollected c.deliver.new.self) c.self.view_is (deliver_waits c.self.inside.nodes c.deliver.new.self c.deliver.result c.deliver.ensures.delivers)
