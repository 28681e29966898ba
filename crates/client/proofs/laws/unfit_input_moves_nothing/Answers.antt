use Rattle.client.proofs.LawLemmas.{unfit_stays}
use Rattle.client.proofs.laws.unfit_input_moves_nothing.Goals as goal

pub returns : goal.returns
returns c = unfit_stays
