use Rattle.linear_laws.proofs.Later.{asked_later_is_later}
use Rattle.linear_laws.proofs.laws.asked_later_is_later.Goals as goal

pub returns : goal.returns
returns c = asked_later_is_later
