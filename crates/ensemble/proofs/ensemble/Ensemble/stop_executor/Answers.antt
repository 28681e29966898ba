use Rattle.std.proofs.Common.{◌≡◌, subst}
use Rattle.events.specs.declared.event.Replica.TheVariants as replica
use Rattle.ensemble.specs.Nodes.{size_of}
use Rattle.ensemble.specs.Calls.{AllCollected, IsStopped}
use Rattle.ensemble.specs.Ensemble.{EnsembleView, first_found}
use Rattle.ensemble.specs.Process.{ensemble_after}
use Rattle.ensemble.proofs.Ending.{goes_on_after}
use Rattle.ensemble.proofs.StopLemmas.{stop_executor_goes, executor_moves, stops_keeps}
use Rattle.ensemble.proofs.Sizes.{host_size}
use Rattle.ensemble.proofs.Collecting.{host_waits}
use Rattle.ensemble.proofs.ensemble.Ensemble.stop_executor.Goals as goal

pub invariant_of-self : goal.invariant_of-self
invariant_of-self c =
    let s = c.self.inside in
    let now = c.stop_executor.new.self in
    let old : EnsembleView = record { nodes = s.nodes; asked = s.asked.items; answered = s.answered.items; order = s.order.items; refused = 0; found = first_found s.found.items } in
    goes_on_after old.found old (record old { nodes = now }) (λ before h. stop_executor_goes (ensemble_after before old) now h c.args.id (executor_moves c.args.id s.nodes now c.stop_executor.ensures)) c.self.invariant

pub returns-clause-size : goal.returns-clause-size
returns-clause-size c =
    let n = c.self.inside.nodes in
    let now = c.stop_executor.new.self in
    subst (λ (e : EnsembleView). size_of now ≡ size_of e.nodes) c.self.view_is (host_size _ c.args.id n now (executor_moves c.args.id n now c.stop_executor.ensures))

pub returns-clause-waits : goal.returns-clause-waits
returns-clause-waits c =
    let n = c.self.inside.nodes in
    let now = c.stop_executor.new.self in
    subst (λ (e : EnsembleView). AllCollected e.nodes → AllCollected now) c.self.view_is (host_waits _ stops_keeps c.args.id n now (executor_moves c.args.id n now c.stop_executor.ensures))

pub returns-clause-stops : goal.returns-clause-stops
returns-clause-stops c = subst (λ (e : EnsembleView). IsStopped (replica.Executor c.args.id) e.nodes c.stop_executor.new.self) c.self.view_is c.stop_executor.ensures
