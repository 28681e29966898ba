use Rattle.std.proofs.Common.{subst}
use Rattle.service.specs.Steps.{NoneWaits}
use Rattle.service.proofs.pool.Pool.is_waiting.Goals as goal

pub returns-clause-no : goal.returns-clause-no
returns-clause-no c is_false = subst NoneWaits c.self.view_is (c.any_waits.ensures.no is_false)
