use Rattle.run_laws.proofs.Runs.{run_ends}
use Rattle.run_laws.proofs.laws.run_ends_where_decrees_stand.Goals as goal

pub returns : goal.returns
returns c = run_ends
