use Rattle.grammar.proofs.ProfileLemmas.{asked_as_before, executed_as_before, answered_as_before}
use Rattle.grammar.proofs.laws.profile_is_as_before.Goals as goal

pub returns-clause-asked : goal.returns-clause-asked
returns-clause-asked c = asked_as_before

pub returns-clause-executed : goal.returns-clause-executed
returns-clause-executed c = executed_as_before

pub returns-clause-answered : goal.returns-clause-answered
returns-clause-answered c = answered_as_before
