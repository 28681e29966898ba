use Rattle.one_server_laws.proofs.Ends.{keep_the_run}
use Rattle.one_server_laws.proofs.laws.executors_keep_the_run.Goals as goal

pub returns : goal.returns
returns c = keep_the_run
