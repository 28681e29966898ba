use Rattle.world_laws.proofs.Proved.{list_is_what_is_chosen, list_only_grows}
use Rattle.world_laws.proofs.laws.chosen_list_only_grows_in_worlds.Goals as goal

pub returns-clause-chosen : goal.returns-clause-chosen
returns-clause-chosen c = list_is_what_is_chosen

pub returns-clause-grows : goal.returns-clause-grows
returns-clause-grows c = list_only_grows
