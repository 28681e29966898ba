use Rattle.executor.proofs.OneRoundLemmas.{same_orders}
use Rattle.executor.proofs.laws.orders_determine_the_round.Goals as goal

pub returns : goal.returns
returns c = λ base new now batch ordered replies answers. same_orders base batch ordered new now replies answers
