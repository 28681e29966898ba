use Rattle.daemon.proofs.LineLemmas.{numbers, seconds}
use Rattle.daemon.proofs.laws.lines_add_up.Goals as goal

pub returns-clause-numbers : goal.returns-clause-numbers
returns-clause-numbers c = numbers

pub returns-clause-seconds : goal.returns-clause-seconds
returns-clause-seconds c = seconds
