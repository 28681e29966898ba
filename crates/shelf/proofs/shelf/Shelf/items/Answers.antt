use Rattle.std.proofs.Common.{◌≡◌, ◌∙◌, ℕ, List, ap}
use Rattle.std.proofs.lemmas.Result.{IfOk-weaker}
use Rattle.sqlite_value.specs.Order.{Row}
use Rattle.sqlite_trees.specs.View.{IsClean}
use Rattle.shelf.specs.Rows.{row_at}
use Rattle.shelf.specs.Found.{rows_found}
use Rattle.shelf.specs.WaitingView.{items_at}
use Rattle.shelf.specs.InMemory.{waiting_view, items_in}
use Rattle.shelf.proofs.shelf.Shelf.items.Goals as goal

pub returns-in-Ok-clause-found : goal.returns-in-Ok-clause-found
returns-in-Ok-clause-found g c =
    IfOk-weaker c.found_in.result
    (λ found. (p : ℕ) → rows_found found p ≡ items_at (waiting_view c.args.self.now.waiting) (row_at c.deref.result.now) p)
    (λ found. IsClean (g.S.Store.view c.rows.new.self.store) → (p : ℕ) → rows_found found p ≡ items_in (g.S.Store.view c.args.self.now.rows.store).committed c.args.self.now.waiting p)
    (λ found h clean p. h p ∙ ap (λ (rows : List Row). items_at (waiting_view c.args.self.now.waiting) (row_at rows) p) (c.deref.ensures.value ∙ (c.in-Ok.ensures.found clean).1))
    c.found_in.ensures
