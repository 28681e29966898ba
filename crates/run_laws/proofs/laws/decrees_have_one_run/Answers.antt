use Rattle.run_laws.proofs.Runs.{has_run, one_run}
use Rattle.run_laws.proofs.laws.decrees_have_one_run.Goals as goal

pub returns-clause-has : goal.returns-clause-has
returns-clause-has c = has_run

pub returns-clause-one : goal.returns-clause-one
returns-clause-one c = one_run
