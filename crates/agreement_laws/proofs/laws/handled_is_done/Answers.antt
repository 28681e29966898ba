use Rattle.agreement_laws.proofs.Verifiers.{handled_is_done}
use Rattle.agreement_laws.proofs.laws.handled_is_done.Goals as goal

pub returns : goal.returns
returns c = handled_is_done
