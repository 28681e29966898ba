use Rattle.one_server_laws.proofs.Proved.{executors_keep_in_worlds}
use Rattle.one_server_laws.proofs.executors.executors_keep_in_worlds.Goals as goal

pub returns : goal.returns
returns c = executors_keep_in_worlds
