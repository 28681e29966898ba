use Rattle.agreement_laws.proofs.Verifiers.{refused_open_is_stopped}
use Rattle.agreement_laws.proofs.laws.refused_open_is_stopped.Goals as goal

pub returns : goal.returns
returns c = refused_open_is_stopped
