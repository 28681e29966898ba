use Rattle.world_laws.proofs.Proved.{one_is_chosen}
use Rattle.world_laws.proofs.laws.one_is_chosen_in_worlds.Goals as goal

pub returns : goal.returns
returns c = one_is_chosen
