use Rattle.ensemble.proofs.Ending.{follows_after}
use Rattle.ensemble.proofs.process_laws.processes_follow_each_other.Goals as goal

pub returns : goal.returns
returns c = follows_after
