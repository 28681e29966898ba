use Rattle.link.proofs.Steps.{takes, learns}
use Rattle.link.proofs.ends.Link.try_take.Goals as goal

pub try_recv_as-requires-clause-rule : goal.try_recv_as-requires-clause-rule
try_recv_as-requires-clause-rule g c = (takes _ _, learns _ _)
