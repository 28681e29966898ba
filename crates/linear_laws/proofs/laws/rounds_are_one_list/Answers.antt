use Rattle.linear_laws.proofs.Flat.{round_is_one_list, run_is_one_list, list_goes_on}
use Rattle.linear_laws.proofs.laws.rounds_are_one_list.Goals as goal

pub returns-clause-round : goal.returns-clause-round
returns-clause-round c = round_is_one_list

pub returns-clause-run : goal.returns-clause-run
returns-clause-run c = run_is_one_list

pub returns-clause-on : goal.returns-clause-on
returns-clause-on c = list_goes_on
