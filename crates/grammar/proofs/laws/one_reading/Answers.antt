use Rattle.grammar.proofs.ReadLemmas.{some_spelled, one_asked, one_of_profile}
use Rattle.grammar.proofs.laws.one_reading.Goals as goal

pub returns-clause-some : goal.returns-clause-some
returns-clause-some c = some_spelled

pub returns-clause-commands : goal.returns-clause-commands
returns-clause-commands c = one_asked

pub returns-clause-profile : goal.returns-clause-profile
returns-clause-profile c = one_of_profile
