use Rattle.process_parts.proofs.LawLemmas.{stored_is_one}
use Rattle.process_parts.proofs.laws.stored_records_are_one.Goals as goal

pub returns : goal.returns
returns c = stored_is_one
