use Rattle.one_server_laws.proofs.Proved.{saved_is_had_by, each_has_one_in_worlds}
use Rattle.one_server_laws.proofs.executors.each_executor_has_one_state_in_worlds.Goals as goal

pub returns-clause-saved : goal.returns-clause-saved
returns-clause-saved c = saved_is_had_by

pub returns-clause-one : goal.returns-clause-one
returns-clause-one c = each_has_one_in_worlds
