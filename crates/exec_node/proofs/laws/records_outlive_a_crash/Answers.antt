use Rattle.exec_node.proofs.UnsavedLemmas.{unsaved_stays}
use Rattle.exec_node.proofs.RecordLemmas.{saved_is_record, one_state, renewed_is_record}
use Rattle.exec_node.proofs.laws.records_outlive_a_crash.Goals as goal

pub returns-clause-unsaved : goal.returns-clause-unsaved
returns-clause-unsaved c = unsaved_stays

pub returns-clause-read : goal.returns-clause-read
returns-clause-read c = saved_is_record

pub returns-clause-one : goal.returns-clause-one
returns-clause-one c = one_state

pub returns-clause-renewed : goal.returns-clause-renewed
returns-clause-renewed c = renewed_is_record
