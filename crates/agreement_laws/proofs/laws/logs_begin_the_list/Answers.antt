use Rattle.agreement_laws.proofs.Proved.{logs_are_chosen}
use Rattle.agreement_laws.proofs.laws.logs_begin_the_list.Goals as goal

pub returns : goal.returns
returns c = logs_are_chosen
