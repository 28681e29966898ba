use Rattle.agreement_laws.proofs.Proved.{told_stands}
use Rattle.agreement_laws.proofs.laws.told_stands_is_chosen.Goals as goal

pub returns : goal.returns
returns c = told_stands
