use Rattle.agreement_laws.proofs.ReadBack.{records_are_read_back}
use Rattle.agreement_laws.proofs.laws.records_are_read_back.Goals as goal

pub returns : goal.returns
returns c = records_are_read_back
