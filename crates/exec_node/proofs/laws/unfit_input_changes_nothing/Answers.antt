use Rattle.exec_node.proofs.UnfitLemmas.{unfit_stays}
use Rattle.exec_node.proofs.laws.unfit_input_changes_nothing.Goals as goal

pub returns : goal.returns
returns c = unfit_stays
