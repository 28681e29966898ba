use Rattle.process_parts.proofs.LawLemmas.{restored_is_stored}
use Rattle.process_parts.proofs.laws.what_is_restored_is_stored.Goals as goal

pub returns : goal.returns
returns c = restored_is_stored
