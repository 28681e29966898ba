use Rattle.std.proofs.Common.{subst}
use Rattle.batches.specs.Waiting.{IsOneEach}
use Rattle.batches.proofs.HeldLemmas.{one_each-held}
use Rattle.batches.proofs.gather.Gather.len.Goals as goal

pub returns-clause-one_each : goal.returns-clause-one_each
returns-clause-one_each c = subst IsOneEach c.self.view_is (one_each-held c.self.inside.held.entries c.self.invariant c.len.ensures.unique)
