-- What is in memory, as definitions speak of it.
use Rattle.std.specs.Prelude.{◌≡◌, ℕ, drop}
use Rattle.sqlite_value.specs.Order.{Row}
use Rattle.sqlite_trees.specs.Tree.{Trees}
use Rattle.item_rows.specs.Changes.{Rows}
use Rattle.shelf.specs.declared.waiting.WaitingChanges.{WaitingChanges}
use Rattle.shelf.specs.Rows.{row_at}
use Rattle.shelf.specs.WaitingView.{WaitingView, items_at}

abbrev pub waiting_view : WaitingChanges → WaitingView
waiting_view w = record { pending = drop w.done w.pending.items; gathered = w.gathered.items; first = w.first; middle = w.middle; next = w.next }

-- what each row of items is, by a file and by what is in memory of it
abbrev pub items_in : Trees → WaitingChanges → Rows Row
items_in db w = items_at (waiting_view w) (row_at (db 0))

-- neither the file nor what a row is has changed
pub record IsUnchanged (old : Trees) (before : WaitingChanges) (new : Trees) (now : WaitingChanges) : Type 0 where
  pub file : new ≡ old
  pub items : (p : ℕ) → items_in new now p ≡ items_in old before p
