use Rattle.verifier.proofs.UnfitLemmas.{unfit_stays}
use Rattle.verifier.proofs.laws.unfit_input_changes_nothing.Goals as goal

pub returns : goal.returns
returns c = unfit_stays
