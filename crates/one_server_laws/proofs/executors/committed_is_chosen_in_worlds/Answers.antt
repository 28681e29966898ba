use Rattle.one_server_laws.proofs.Proved.{committed_is_chosen_in_worlds}
use Rattle.one_server_laws.proofs.executors.committed_is_chosen_in_worlds.Goals as goal

pub returns : goal.returns
returns c = committed_is_chosen_in_worlds
