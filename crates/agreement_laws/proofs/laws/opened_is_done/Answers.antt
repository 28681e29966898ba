use Rattle.agreement_laws.proofs.Verifiers.{opened_is_done}
use Rattle.agreement_laws.proofs.laws.opened_is_done.Goals as goal

pub returns : goal.returns
returns c = opened_is_done
