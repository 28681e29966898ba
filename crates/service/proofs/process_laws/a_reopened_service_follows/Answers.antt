use Rattle.service.proofs.Ending.{begins_after}
use Rattle.service.proofs.process_laws.a_reopened_service_follows.Goals as goal

pub returns : goal.returns
returns c = begins_after c.a_reopened_ensemble_follows.ensures
