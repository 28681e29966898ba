-- What became of rows between two states of items.
use Rattle.std.specs.Prelude.{◌≡◌, ◌≢◌, ◌⊎◌, ◌<◌, ◌/◌, ◌^◌, ℕ, suc, ◌==◌, if◌then◌else◌, nat_lt, List, [], ◌∷◌, ◌++◌, map, filter, Option, None, Some}
use Rattle.items.specs.declared.item.Item.{Item}
use Rattle.items.specs.Map.{Items}
use Rattle.sqlite_value.specs.Order.{Row}
use Rattle.item_tree.specs.Text.{path_entries}
use Rattle.pages.specs.Page.{Laid, page_items, page_count}
use Rattle.pages.specs.Differing.{ArePagesTold}
use Rattle.item_rows.specs.Row.{row_number_of}
use Rattle.item_rows.specs.RowItems.{RowItems, row_of_items, items_row}
use Rattle.item_rows.specs.Changes.{Rows, ItemChange, rows_after, last_change}

-- the entries of a row, in their order
abbrev pub in_row : ℕ → List (List ℕ × Item) → List (List ℕ × Item)
in_row p es = filter (λ e. row_number_of e.0 == p) es

-- how many entries at the front are in this row
abbrev pub at_front : ℕ → List (List ℕ × Item) → ℕ
at_front p [] = 0
at_front p (e ∷ es) = if row_number_of e.0 == p then suc (at_front p es) else 0

abbrev pub row_number_at_front : List (List ℕ × Item) → Option ℕ
row_number_at_front [] = None
row_number_at_front (e ∷ es) = Some (row_number_of e.0)

-- the lower one of two row numbers, if there is one
abbrev pub lower_row_number : Option ℕ → Option ℕ → Option ℕ
lower_row_number None other = other
lower_row_number (Some row_number) None = Some row_number
lower_row_number (Some row_number) (Some other) = Some (if nat_lt other row_number then other else row_number)

-- what became of a row
abbrev pub change_of : RowItems → ItemChange Row
change_of row_items = (row_items.0, items_row row_items)

abbrev pub row_told : ℕ → List RowItems → Option (Option Row)
row_told p cs = last_change p (map change_of cs)

-- what changes say of a row, in which these entries were and are: nothing, and then they are the same; or else the row of those that are, and then there are some
abbrev pub IsNotedAt : ℕ → (old new : List (List ℕ × Item)) → Option (Option Row) → Type 0
IsNotedAt p old new None = old ≡ new
IsNotedAt p old new (Some row) = (row ≡ row_of_items p new) × (old ≡ [] → new ≡ [] → ⊥)

-- the same of each row of two lists
abbrev pub AreNoted : (old new : List (List ℕ × Item)) → List RowItems → Type 0
AreNoted old new cs = (p : ℕ) → IsNotedAt p (in_row p old) (in_row p new) (row_told p cs)

-- a change of a row is added, if not the same entries are there
abbrev pub IsNoteOf : ℕ → (old new : List (List ℕ × Item)) → (before after : List RowItems) → Type 0
IsNoteOf p old new before after = ((after ≡ before) × (old ≡ new)) ⊎ (after ≡ before ++ (p, new) ∷ [])

-- the items of a row are in one page
abbrev pub items_in_row : Items → ℕ → List (List ℕ × Item)
items_in_row m p = in_row p (path_entries (page_items m (p / 2 ^ 55)))

-- the rows of items
abbrev pub rows_of : Items → Rows Row
rows_of m p = row_of_items p (items_in_row m p)

-- digests tell the texts apart that are hashed for the digests of each page
abbrev pub AreSnapshotsTold : Laid → Laid → Type 0
AreSnapshotsTold old new = (n : ℕ) → n < page_count → ArePagesTold old.layout (page_items old.items n) new.layout (page_items new.items n)

-- What became of the rows of a page, if digests tell, and of no others.
pub record IsPageNoted (n : ℕ) (old new : Laid) (cs : List RowItems) : Type 0 where
  pub noted : ArePagesTold old.layout (page_items old.items n) new.layout (page_items new.items n) → (p : ℕ) → p / 2 ^ 55 ≡ n → IsNotedAt p (items_in_row old.items p) (items_in_row new.items p) (row_told p cs)
  pub others : (p : ℕ) → p / 2 ^ 55 ≢ n → row_told p cs ≡ None

-- the rows of the one, with these changes, are those of the other
abbrev pub LeadTo : List RowItems → Items → Items → Type 0
LeadTo cs old new = (p : ℕ) → p < 2 ^ 63 → rows_after (rows_of old) (map change_of cs) p ≡ rows_of new p
