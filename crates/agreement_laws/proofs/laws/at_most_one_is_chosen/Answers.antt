use Rattle.agreement_laws.proofs.Proved.{at_most_one}
use Rattle.agreement_laws.proofs.laws.at_most_one_is_chosen.Goals as goal

pub returns : goal.returns
returns c = at_most_one
