use Rattle.seals.proofs.LawLemmas.{taken_is_told, taken_is_sent, sent_is_taken}
use Rattle.seals.proofs.laws.what_is_taken_was_sent.Goals as goal

pub returns-clause-told : goal.returns-clause-told
returns-clause-told c = taken_is_told

pub returns-clause-sent : goal.returns-clause-sent
returns-clause-sent c = taken_is_sent

pub returns-clause-all : goal.returns-clause-all
returns-clause-all c = sent_is_taken
