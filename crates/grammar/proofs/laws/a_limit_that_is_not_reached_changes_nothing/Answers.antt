use Rattle.grammar.proofs.ReadLemmas.{room_spelled}
use Rattle.grammar.proofs.laws.a_limit_that_is_not_reached_changes_nothing.Goals as goal

pub returns : goal.returns
returns c = room_spelled
