use Rattle.world_laws.proofs.Projected.{are_of_machines}
use Rattle.world_laws.proofs.laws.worlds_are_of_machines.Goals as goal

pub returns : goal.returns
returns c = are_of_machines
