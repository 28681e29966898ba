use Rattle.folders.proofs.Majorities.{found}
use Rattle.folders.proofs.laws.a_finished_save_is_found.Goals as goal

pub returns : goal.returns
returns c = found
