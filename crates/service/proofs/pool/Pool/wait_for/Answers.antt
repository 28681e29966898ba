use Rattle.std.proofs.Common.{List, Option, sym, subst}
use Rattle.service.specs.declared.assignment.Outstanding.{Outstanding}
use Rattle.service.specs.Steps.{AddsWait}
use Rattle.service.proofs.WaitLemmas.{adds_set}
use Rattle.service.proofs.pool.Pool.wait_for.Goals as goal

pub returns-clause-adds : goal.returns-clause-adds
returns-clause-adds c =
    subst (λ (v : List (Option Outstanding)). AddsWait v c.args.outstanding.assignment c.wait_at.new.waiting.items) c.self.view_is (subst (AddsWait c.self.inside.waiting.items c.args.outstanding.assignment) (sym c.wait_at.ensures) (adds_set c.self.inside.waiting.items c.slot_of-at.result c.args.outstanding c.slot_of-at.ensures))
