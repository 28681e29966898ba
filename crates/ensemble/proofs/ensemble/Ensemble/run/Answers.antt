use Rattle.ensemble.specs.Ensemble.{EnsembleView, first_found}
use Rattle.ensemble.specs.Process.{ensemble_after}
use Rattle.ensemble.proofs.Ending.{goes_on_after}
use Rattle.ensemble.proofs.Going.{run_jobs_goes}
use Rattle.std.proofs.Common.{◌≡◌, subst}
use Rattle.ensemble.specs.Nodes.{RunsAll, size_of}
use Rattle.ensemble.proofs.Sizes.{runs_size}
use Rattle.ensemble.proofs.ensemble.Ensemble.run.Goals as goal

pub invariant_of-self : goal.invariant_of-self
invariant_of-self g c =
    let old : EnsembleView = record { nodes = c.self.inside.nodes; asked = c.self.inside.asked.items; answered = c.self.inside.answered.items; order = c.self.inside.order.items; refused = 0; found = first_found c.self.inside.found.items } in
    goes_on_after old.found old (record old { nodes = c.run_jobs.new.self }) (λ before h. run_jobs_goes (ensemble_after before old) c.run_jobs.new.self h c.a_run_is_steps.ensures c.run_jobs.ensures) c.self.invariant

pub returns-clause-size : goal.returns-clause-size
returns-clause-size g c = subst (λ (e : EnsembleView). size_of c.run_jobs.new.self ≡ size_of e.nodes) c.self.view_is (runs_size c.self.inside.nodes c.run_jobs.new.self c.run_jobs.ensures)

pub returns-clause-ran : goal.returns-clause-ran
returns-clause-ran g c = subst (λ (e : EnsembleView). RunsAll e.nodes c.run_jobs.new.self) c.self.view_is c.run_jobs.ensures
