use Rattle.agreement_laws.proofs.Proved.{list_is_backed}
use Rattle.agreement_laws.proofs.laws.list_is_backed.Goals as goal

pub returns : goal.returns
returns c = list_is_backed
