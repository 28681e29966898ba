use Rattle.agreement_laws.proofs.Proved.{all_backed}
use Rattle.agreement_laws.proofs.laws.chosen_is_backed.Goals as goal

pub returns : goal.returns
returns c = all_backed
