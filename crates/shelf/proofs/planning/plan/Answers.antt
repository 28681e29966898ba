use Rattle.std.proofs.Common.{subst, sym}
use Rattle.row_store.specs.Saved.{ChangesFit}
use Rattle.shelf.specs.InMemory.{waiting_view}
use Rattle.shelf.proofs.FitLemmas.{planned_fits}
use Rattle.shelf.proofs.planning.plan.Goals as goal

pub returns-in-Ok-clause-fit : goal.returns-in-Ok-clause-fit
returns-in-Ok-clause-fit c =
    subst (ChangesFit 5) (sym c.in-Ok.ensures.planned)
    (planned_fits (waiting_view c.args.waiting.now) c.args.count c.args.changes.now c.args.extras.now.process c.args.extras.now.replies.items)
