use Rattle.run_laws.proofs.Runs.{run_grows}
use Rattle.run_laws.proofs.laws.more_decrees_extend_the_run.Goals as goal

pub returns : goal.returns
returns c = run_grows
