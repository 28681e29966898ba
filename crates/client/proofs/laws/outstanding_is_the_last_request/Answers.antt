use Rattle.client.proofs.LawLemmas.{outstanding_is_last, closed_is_idle}
use Rattle.client.proofs.laws.outstanding_is_the_last_request.Goals as goal

pub returns : goal.returns
returns c = record { last = outstanding_is_last; closed = closed_is_idle }
