use Rattle.agreement_laws.proofs.Proved.{all_kept}
use Rattle.agreement_laws.proofs.laws.chosen_is_kept.Goals as goal

pub returns : goal.returns
returns c = all_kept
