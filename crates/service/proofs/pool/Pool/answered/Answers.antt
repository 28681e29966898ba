use Rattle.std.proofs.Common.{List, Option, subst}
use Rattle.service.specs.declared.assignment.Outstanding.{Outstanding}
use Rattle.service.specs.Steps.{EndsWait}
use Rattle.service.proofs.WaitLemmas.{ends_take}
use Rattle.service.proofs.pool.Pool.answered.Goals as goal

pub returns-clause-ends : goal.returns-clause-ends
returns-clause-ends c =
    subst (λ (v : List (Option Outstanding)). EndsWait v c.args.proxy c.args.number c.take_at.new.waiting.items c.take_at.result) c.self.view_is (ends_take c.self.inside.waiting.items c.take_at.new.waiting.items c.slot_of.result c.args.proxy c.args.number c.take_at.result c.take_at.ensures)
