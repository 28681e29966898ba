use Rattle.agreement_laws.proofs.Verifiers.{reopened_is_done}
use Rattle.agreement_laws.proofs.laws.reopened_is_done.Goals as goal

pub returns : goal.returns
returns c = reopened_is_done
