-- What a file says, what is in memory of it, and what a save makes of both.
use Rattle.std.specs.Prelude.{◌≡◌, ℕ, zero, suc, pos, ◌+◌, ◌-◌, ◌==◌, if◌then◌else◌, ◌++◌, List, [], ◌∷◌, length, map, take, drop, flat_map, Option, None, Some}
use Rattle.sqlite_value.specs.Order.{Row}
use Rattle.sqlite_trees.specs.Tree.{Trees}
use Rattle.row_store.specs.Saved.{after}
use Rattle.row_store.specs.declared.change.RowChange.{RowChange}
use Rattle.row_store.specs.declared.change.RowChange.TheVariants.{Put, Remove}
use Rattle.item_rows.specs.Changes.{Rows, rows_after, last_change, IsUnnamed}
use Rattle.item_rows.specs.RowItems.{RowItems}
use Rattle.shelf.specs.declared.process.SavedProcess.{SavedProcess}
use Rattle.shelf.specs.declared.reply.ReplyChange.{ReplyChange}
use Rattle.shelf.specs.Rows.{row_at, change_row, change_rows, process_row, process_rows, row_of_change, row_of_reply, change_in}

-- the changes of saves, in order
abbrev pub all_of : List (List RowItems) → List RowItems
all_of log = flat_map (λ changes. changes) log

-- rows, and over them changes in order
abbrev pub changed_rows : Rows Row → List RowItems → Rows Row
changed_rows rows changes = rows_after rows (map row_of_change changes)

-- what a file says of rows of items, from those that it has and its changes over them
pub record SaysOfRows (db : Trees) (items : Rows Row) : Type 0 where
  pub first : ℕ
  pub log : List (List RowItems)
  pub has_log : db 1 ≡ change_rows first log
  pub is : (p : ℕ) → changed_rows (row_at (db 0)) (all_of log) p ≡ items p

-- the same, whatever its changes are
abbrev pub SaysItems : Trees → Rows Row → Type 0
SaysItems db items = ∥ SaysOfRows db items ∥₁

-- rows of changes that have these numbers, with all of their changes
pub record IsLog (first : ℕ) (rows : List Row) (all : List RowItems) : Type 0 where
  pub log : List (List RowItems)
  pub has_log : rows ≡ change_rows first log
  pub all_are : all ≡ all_of log

-- what is in memory of a file's changes
pub record WaitingView : Type 0 where
  -- changes whose rows are not written yet, of the saves from `first` on
  pub pending : List RowItems
  -- changes of later saves, which are those from `middle` up to `next`
  pub gathered : List RowItems
  pub first : ℕ
  pub middle : ℕ
  pub next : ℕ

-- what the rows are
abbrev pub items_at : WaitingView → Rows Row → Rows Row
items_at s rows = changed_rows (changed_rows rows s.pending) s.gathered

-- the file has the changes that are in memory, and rows that have all earlier ones
pub record HasWaiting (db : Trees) (s : WaitingView) : Type 0 where
  pub earlier : List (List RowItems)
  pub later : List (List RowItems)
  pub has_log : db 1 ≡ change_rows s.first (earlier ++ later)
  pub earlier_are : s.first + length earlier ≡ s.middle
  pub later_are : s.middle + length later ≡ s.next
  pub gathered : all_of later ≡ s.gathered
  pub rest : (p : ℕ) → changed_rows (row_at (db 0)) s.pending p ≡ changed_rows (row_at (db 0)) (all_of earlier) p
  pub named : (p : ℕ) → IsUnnamed p (map row_of_change (all_of earlier)) → IsUnnamed p (map row_of_change s.pending)

-- so many rows of changes from this number on are removed
abbrev pub removals : ℕ → ℕ → List RowChange
removals first zero = []
removals first (suc n) = removals first n ++ Remove 1 (pos (first + n)) ∷ []

-- the first save whose changes are not all in rows, once so many of the pending changes are
abbrev pub first_after : WaitingView → ℕ → ℕ
first_after s count = if count == length s.pending then s.middle else s.first

abbrev pub process_changes : Option SavedProcess → List RowChange
process_changes None = []
process_changes (Some p) = Put 2 (process_row p) ∷ []

-- what is saved: the changes, some rows of earlier ones, and what is known of the process and of replies
abbrev pub planned : WaitingView → ℕ → List RowItems → Option SavedProcess → List ReplyChange → List RowChange
planned s count changes process replies =
    (((Put 1 (change_row s.next changes) ∷ [] ++ map (λ c. change_in 0 (row_of_change c)) (take count s.pending))
    ++ removals s.first (first_after s count - s.first))
    ++ process_changes process)
    ++ map (λ r. change_in 3 (row_of_reply r)) replies

abbrev pub waiting_after : WaitingView → ℕ → List RowItems → WaitingView
waiting_after s count changes = record {
  pending = drop count s.pending;
  gathered = s.gathered ++ changes;
  first = first_after s count;
  middle = s.middle;
  next = s.next + 1;
}

-- a save may leave the row of the process as it was
abbrev pub process_after : Option SavedProcess → Option SavedProcess → Option SavedProcess
process_after None was = was
process_after (Some p) was = Some p

-- what one save makes of a file that says these items
pub record IsAfterSave (old : Trees) (items : Rows Row) (changes : List RowItems) (process : Option SavedProcess) (replies : List ReplyChange) (new : Trees) : Type 0 where
  pub items_are : SaysItems new (changed_rows items changes)
  pub process_is : (was : Option SavedProcess) → old 2 ≡ process_rows was → new 2 ≡ process_rows (process_after process was)
  pub replies_are : (client : ℕ) → row_at (new 3) client ≡ rows_after (row_at (old 3)) (map row_of_reply replies) client

-- the same changes of each row, of which the last one counts
abbrev pub IsResorted : List RowItems → List RowItems → Type 0
IsResorted old new = (p : ℕ) → last_change p (map row_of_change new) ≡ last_change p (map row_of_change old)

-- nothing was pending, and all that was gathered is now
pub record Rotates (old new : WaitingView) : Type 0 where
  pub none : old.pending ≡ []
  pub all_written : old.first ≡ old.middle
  pub sorted : IsResorted old.gathered new.pending
  pub is : new ≡ record { pending = new.pending; gathered = []; first = old.first; middle = old.next; next = old.next }
