use Rattle.agreement_laws.proofs.SomePlay.{something_is_chosen}
use Rattle.agreement_laws.proofs.laws.something_is_chosen.Goals as goal

pub returns : goal.returns
returns c = something_is_chosen
