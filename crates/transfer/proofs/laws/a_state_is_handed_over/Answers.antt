use Rattle.transfer.proofs.TakeLemmas.{hands_over, takes_what_was_asked}
use Rattle.transfer.proofs.laws.a_state_is_handed_over.Goals as goal

pub returns-clause-whole : goal.returns-clause-whole
returns-clause-whole c = hands_over

pub returns-clause-asked : goal.returns-clause-asked
returns-clause-asked c = takes_what_was_asked
