use mathlib.Core.Logic.{∥∥₁_map}
use Rattle.shelf.specs.InMemory.{waiting_view}
use Rattle.shelf.proofs.WaitingLemmas.{waiting_says}
use Rattle.shelf.proofs.shelf.Shelf.says.Goals as goal

pub returns : goal.returns
returns g c = λ clean is_open.
    ∥∥₁_map (c.args.self.now.stands clean is_open) (waiting_says (g.S.Store.view c.args.self.now.rows.store).committed (waiting_view c.args.self.now.waiting))
