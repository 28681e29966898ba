use Rattle.agreement_laws.proofs.Proved.{list_is_chosen}
use Rattle.agreement_laws.proofs.laws.list_is_what_is_chosen.Goals as goal

pub returns : goal.returns
returns c = list_is_chosen
