use Rattle.schedules.proofs.LawLemmas.{one_is_spelled}
use Rattle.schedules.proofs.laws.one_schedule_is_spelled.Goals as goal

pub returns : goal.returns
returns c = one_is_spelled
