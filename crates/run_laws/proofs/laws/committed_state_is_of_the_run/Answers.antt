use Rattle.run_laws.proofs.Runs.{committed_is_of_run}
use Rattle.run_laws.proofs.laws.committed_state_is_of_the_run.Goals as goal

pub returns : goal.returns
returns c = committed_is_of_run
