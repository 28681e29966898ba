use Rattle.decrees.proofs.GrowthLemmas.{grows_by_one}
use Rattle.decrees.proofs.laws.a_log_grows_by_one.Goals as goal

pub returns : goal.returns
returns c = grows_by_one
