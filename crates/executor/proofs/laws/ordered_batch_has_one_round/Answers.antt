use Rattle.executor.proofs.OneRoundLemmas.{ordered_once}
use Rattle.executor.proofs.laws.ordered_batch_has_one_round.Goals as goal

pub returns : goal.returns
returns c = λ base new now batch replies answers. ordered_once base batch new now replies answers
