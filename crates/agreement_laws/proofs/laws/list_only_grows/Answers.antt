use Rattle.agreement_laws.proofs.Proved.{list_grows}
use Rattle.agreement_laws.proofs.laws.list_only_grows.Goals as goal

pub returns : goal.returns
returns c = list_grows
