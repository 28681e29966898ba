use Rattle.ensemble.specs.Ensemble.{EnsembleView, first_found}
use Rattle.ensemble.specs.Process.{ensemble_after}
use Rattle.ensemble.proofs.Ending.{goes_on_after}
use Rattle.ensemble.proofs.Going.{open_executor_goes}
use Rattle.std.proofs.Common.{◌≡◌, subst}
use Rattle.ensemble.specs.Nodes.{size_of}
use Rattle.ensemble.proofs.Sizes.{open_host_size}
use Rattle.ensemble.proofs.Collecting.{open_host_waits, reopens_keeps}
use Rattle.ensemble.specs.Calls.{AllCollected, RefusedNothing, IsReopened, IsReopenedAndPosts}
use Rattle.events.specs.declared.event.Replica.TheVariants as replica
use Rattle.ensemble.proofs.ensemble.Ensemble.open_executor.Goals as goal

pub invariant_of-self : goal.invariant_of-self
invariant_of-self c =
    let old : EnsembleView = record { nodes = c.self.inside.nodes; asked = c.self.inside.asked.items; answered = c.self.inside.answered.items; order = c.self.inside.order.items; refused = 0; found = first_found c.self.inside.found.items } in
    goes_on_after old.found old (record old { nodes = c.open_executor.new.self }) (λ before h. open_executor_goes (ensemble_after before old) c.open_executor.new.self h c.args.id c.open_executor.ensures.moves) c.self.invariant

pub returns-clause-size : goal.returns-clause-size
returns-clause-size c = subst (λ (e : EnsembleView). size_of c.open_executor.new.self ≡ size_of e.nodes) c.self.view_is (open_host_size _ c.args.id c.self.inside.nodes c.open_executor.new.self c.open_executor.ensures.moves)

pub returns-clause-waits : goal.returns-clause-waits
returns-clause-waits c = subst (λ (e : EnsembleView). AllCollected e.nodes → AllCollected c.open_executor.new.self) c.self.view_is (open_host_waits _ (reopens_keeps _ c.args.id) c.args.id c.self.inside.nodes c.open_executor.new.self c.open_executor.ensures.moves)

pub returns-clause-opens : goal.returns-clause-opens
returns-clause-opens c = subst (λ (e : EnsembleView). IsReopened (replica.Executor c.args.id) e.nodes c.open_executor.new.self) c.self.view_is c.open_executor.ensures.opens

pub returns-clause-posted : goal.returns-clause-posted
returns-clause-posted c = subst (λ (e : EnsembleView). RefusedNothing e.refused c.open_executor.new.refused → IsReopenedAndPosts (replica.Executor c.args.id) e.nodes c.open_executor.new.self) c.self.view_is c.open_executor.ensures.posted
