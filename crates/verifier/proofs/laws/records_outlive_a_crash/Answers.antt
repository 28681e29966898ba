use Rattle.verifier.proofs.StepLemmas.{unsaved_stays}
use Rattle.verifier.proofs.RecordLemmas.{saved_is_record}
use Rattle.verifier.proofs.RecordsApart.{one_state}
use Rattle.verifier.proofs.laws.records_outlive_a_crash.Goals as goal

pub returns-clause-unsaved : goal.returns-clause-unsaved
returns-clause-unsaved c = unsaved_stays

pub returns-clause-read : goal.returns-clause-read
returns-clause-read c = saved_is_record

pub returns-clause-one : goal.returns-clause-one
returns-clause-one c = one_state
