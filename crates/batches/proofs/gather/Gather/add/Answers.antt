use Rattle.std.proofs.Common.{ap}
use Rattle.batches.specs.Waiting.{added}
use Rattle.batches.proofs.HeldLemmas.{keyed_after, values_after}
use Rattle.batches.proofs.gather.Gather.add.Goals as goal

pub invariant_of-self : goal.invariant_of-self
invariant_of-self c = keyed_after c.add_request.result c.self.inside.held.entries _ _ c.self.invariant c.add_request.ensures.ok c.add_request.ensures.err

pub returns-clause-ok : goal.returns-clause-ok
returns-clause-ok c = values_after c.add_request.result _ _ _ c.add_request.ensures.ok (ap (added c.args.request) c.self.view_is)
