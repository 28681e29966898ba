use Rattle.schedules.proofs.LawLemmas.{one_is_first_bad}
use Rattle.schedules.proofs.laws.one_line_is_first_bad.Goals as goal

pub returns : goal.returns
returns c = one_is_first_bad
