use Rattle.agreement_laws.proofs.Proved.{told_is_chosen}
use Rattle.agreement_laws.proofs.laws.told_is_chosen.Goals as goal

pub returns : goal.returns
returns c = told_is_chosen
