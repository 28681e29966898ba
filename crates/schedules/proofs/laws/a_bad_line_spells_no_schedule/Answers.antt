use Rattle.schedules.proofs.LawLemmas.{bad_spells_none}
use Rattle.schedules.proofs.laws.a_bad_line_spells_no_schedule.Goals as goal

pub returns : goal.returns
returns c = bad_spells_none
