use Rattle.ensemble.proofs.Ending.{comes_back}
use Rattle.ensemble.proofs.process_laws.a_process_comes_back.Goals as goal

pub returns : goal.returns
returns c = comes_back
