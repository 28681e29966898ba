use Rattle.world_laws.proofs.Proved.{chosen_stands}
use Rattle.world_laws.proofs.laws.chosen_stands_in_worlds.Goals as goal

pub returns : goal.returns
returns c = chosen_stands
