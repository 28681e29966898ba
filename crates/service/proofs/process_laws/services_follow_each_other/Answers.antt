use Rattle.service.proofs.Ending.{all_whole}
use Rattle.service.proofs.process_laws.services_follow_each_other.Goals as goal

pub returns : goal.returns
returns c = λ v later follow. all_whole v later follow.0 follow.1 follow.2
