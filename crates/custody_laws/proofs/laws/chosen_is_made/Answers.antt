use Rattle.custody_laws.proofs.Custody.{chosen_is_made}
use Rattle.custody_laws.proofs.laws.chosen_is_made.Goals as goal

pub returns : goal.returns
returns c = chosen_is_made
