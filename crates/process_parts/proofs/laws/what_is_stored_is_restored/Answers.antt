use Rattle.process_parts.proofs.LawLemmas.{stored_is_restored}
use Rattle.process_parts.proofs.laws.what_is_stored_is_restored.Goals as goal

pub returns : goal.returns
returns c = stored_is_restored
