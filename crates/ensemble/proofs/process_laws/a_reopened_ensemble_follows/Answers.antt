use Rattle.ensemble.proofs.Ending.{begins_after}
use Rattle.ensemble.proofs.process_laws.a_reopened_ensemble_follows.Goals as goal

pub returns : goal.returns
returns c = begins_after
