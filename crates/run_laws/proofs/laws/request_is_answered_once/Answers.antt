use Rattle.run_laws.proofs.Replies.{answered_once}
use Rattle.run_laws.proofs.laws.request_is_answered_once.Goals as goal

pub returns : goal.returns
returns c = answered_once
