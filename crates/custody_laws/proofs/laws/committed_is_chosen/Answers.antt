use Rattle.custody_laws.proofs.Custody.{committed_is_chosen}
use Rattle.custody_laws.proofs.laws.committed_is_chosen.Goals as goal

pub returns : goal.returns
returns c = committed_is_chosen
