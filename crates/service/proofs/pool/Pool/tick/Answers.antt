use Rattle.std.proofs.Common.{List, Option, subst}
use Rattle.service.specs.declared.assignment.Outstanding.{Outstanding}
use Rattle.service.specs.Steps.{KeepsWaits}
use Rattle.service.proofs.WaitLemmas.{keeps_set}
use Rattle.service.proofs.pool.Pool.tick.Goals as goal

pub returns-clause-keeps : goal.returns-clause-keeps
returns-clause-keeps c =
    subst (λ (v : List (Option Outstanding)). KeepsWaits v c.tick_at.new.waiting.items) c.self.view_is (keeps_set c.self.inside.waiting.items c.tick_at.new.waiting.items c.args.at c.tick_at.ensures.sets)
