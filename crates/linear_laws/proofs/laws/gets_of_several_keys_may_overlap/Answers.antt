use Rattle.linear_laws.proofs.Samples.{gets_may_overlap}
use Rattle.linear_laws.proofs.laws.gets_of_several_keys_may_overlap.Goals as goal

pub returns : goal.returns
returns c = gets_may_overlap
