use Rattle.exec_node.proofs.LinkedLemmas.{linked_stays}
use Rattle.exec_node.proofs.laws.linked_chains_stay_linked.Goals as goal

pub returns : goal.returns
returns c = linked_stays
