use Rattle.wire.proofs.Values.{told_apart}
use Rattle.states.proofs.RecordLemmas.{state_free}
use Rattle.states.proofs.record_laws.states_are_told_apart.Goals as goal

pub returns-clause-one : goal.returns-clause-one
returns-clause-one c = told_apart state_free

pub returns-clause-whole : goal.returns-clause-whole
returns-clause-whole c = state_free
