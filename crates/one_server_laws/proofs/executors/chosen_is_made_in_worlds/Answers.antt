use Rattle.one_server_laws.proofs.Proved.{chosen_is_made_in_worlds}
use Rattle.one_server_laws.proofs.executors.chosen_is_made_in_worlds.Goals as goal

pub returns : goal.returns
returns c = chosen_is_made_in_worlds
