use Rattle.suspicion.proofs.RunLemmas.{apart}
use Rattle.suspicion.proofs.laws.two_are_a_second_apart.Goals as goal

pub returns : goal.returns
returns c = apart
