use Rattle.one_server_laws.proofs.Plays.{are_of_executor_machines}
use Rattle.one_server_laws.proofs.executors.worlds_are_of_executor_machines.Goals as goal

pub returns : goal.returns
returns c = are_of_executor_machines
