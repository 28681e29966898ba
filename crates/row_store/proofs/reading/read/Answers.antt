use Rattle.row_store.proofs.ReadLemmas.{quiet_along}
use Rattle.row_store.proofs.reading.read.Goals as goal

pub returns-then-not-branch-clause-quiet : goal.returns-then-not-branch-clause-quiet
returns-then-not-branch-clause-quiet g c = quiet_along c.loop.invariant.2 c.step.ensures.quiet
