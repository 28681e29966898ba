use Rattle.exec_node.proofs.PlayedLemmas.{run_is_played}
use Rattle.exec_node.proofs.laws.a_run_is_played.Goals as goal

pub returns : goal.returns
returns c = run_is_played
