use Rattle.agreement_laws.proofs.Untrimmed.{all_held}
use Rattle.agreement_laws.proofs.laws.chosen_is_held.Goals as goal

pub returns : goal.returns
returns c = all_held
