use Rattle.verifier.proofs.StepLemmas.{learns_in_order, stays_a_log, begins_as_it_could}
use Rattle.verifier.proofs.laws.decrees_are_learned_in_order.Goals as goal

pub returns-clause-order : goal.returns-clause-order
returns-clause-order c = learns_in_order

pub returns-clause-log : goal.returns-clause-log
returns-clause-log c = stays_a_log

pub returns-clause-begins : goal.returns-clause-begins
returns-clause-begins c = begins_as_it_could
