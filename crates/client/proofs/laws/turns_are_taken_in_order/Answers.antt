use Rattle.client.proofs.LawLemmas.{given_in_order, no_turn_is_lost}
use Rattle.client.proofs.laws.turns_are_taken_in_order.Goals as goal

pub returns : goal.returns
returns c = record { given = given_in_order; all = no_turn_is_lost }
