use Rattle.one_server_laws.proofs.Records.{one_is_spelled, one_is_read}
use Rattle.one_server_laws.proofs.executors.records_are_of_one_state.Goals as goal

pub returns-clause-one : goal.returns-clause-one
returns-clause-one c = one_is_spelled

pub returns-clause-read : goal.returns-clause-read
returns-clause-read c = one_is_read
