use Rattle.link.proofs.Steps.{puts, learns}
use Rattle.link.proofs.ends.Link.try_put.Goals as goal

pub try_send_as-requires-clause-rule : goal.try_send_as-requires-clause-rule
try_send_as-requires-clause-rule g c = (puts _ _ _ _ c.self.invariant.2, learns _ _)
