use Rattle.one_server_laws.proofs.Told.{met_are_told_apart}
use Rattle.one_server_laws.proofs.executors.met_are_told_apart_in_worlds.Goals as goal

pub returns : goal.returns
returns c = met_are_told_apart
