use Rattle.world_laws.proofs.Proved.{chosen_is_kept}
use Rattle.world_laws.proofs.laws.chosen_is_kept_in_worlds.Goals as goal

pub returns : goal.returns
returns c = chosen_is_kept
