use Rattle.ensemble.proofs.Continuing.{steps_after}
use Rattle.ensemble.proofs.process_laws.an_ensemble_goes_on_after_a_process.Goals as goal

pub returns : goal.returns
returns c = steps_after c.a_run_is_steps.ensures
