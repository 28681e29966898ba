-- The index of what is due: the entries that have a due time, by that time and then by their keys.
use Rattle.std.specs.Prelude.{◌≡◌, ℕ, List, ◌<◌, Bool, true, false, not, nat_lt, length, slice_index_or, ◌==◌, Option, Some, None, IsTrue, if◌then◌else◌}
use Rattle.std.specs.Option.{option_map_or}
use Rattle.std.specs.declared.cmp.Ordering.{Ordering}
use Rattle.std.specs.Ordering.{nat_cmp, on, then_cmp, eq_by_cmp}
use Rattle.std.specs.FinMap.{is_sorted, find, put}
use Rattle.std.specs.FinMap.Entries.{where_key}
use Rattle.items.specs.declared.item.Item.{Item}
use Rattle.items.specs.Map.{by_bytes}

-- the sooner first, and of those of one time the lower key
abbrev pub by_due : ℕ × List ℕ → ℕ × List ℕ → Ordering
by_due = then_cmp (on (λ x. x.0) nat_cmp) (on (λ x. x.1) by_bytes)

abbrev pub is_due_at : ℕ → Item → Bool
is_due_at time item = option_map_or (λ due. due == time) item.due false

-- the item, if it is due at just this time
abbrev pub if_due : ℕ → Option Item → Option Item
if_due time None = None
if_due time (Some item) = if is_due_at time item then Some item else None

-- The index of these entries: at a time and a key it has the item that is there and is due then, and nothing else.
pub record IsIndex (index : List ((ℕ × List ℕ) × Item)) (entries : List (List ℕ × Item)) : Type 0 where
  pub rises : IsTrue (is_sorted by_due index)
  pub exact : (time : ℕ) (key : List ℕ) → find by_due (time, key) index ≡ if_due time (find by_bytes key entries)

-- Entries by rising keys, beside their index.
pub record IsIndexed (index : List ((ℕ × List ℕ) × Item)) (entries : List (List ℕ × Item)) : Type 0 where
  pub sorted : IsTrue (is_sorted by_bytes entries)
  pub indexed : IsIndex index entries

-- the entries of the index before this place are due at the moment or before it
abbrev pub IsDueUpTo : ℕ → List ((ℕ × List ℕ) × Item) → ℕ → Type 0
IsDueUpTo moment index n = (k : ℕ) (due : (ℕ × List ℕ) × Item) → k < n → nat_lt moment (slice_index_or index k due).0.0 ≡ false

-- and the one at this place, if there is one, is not
abbrev pub IsLaterFrom : ℕ → List ((ℕ × List ℕ) × Item) → ℕ → Type 0
IsLaterFrom moment index n = (due : (ℕ × List ℕ) × Item) → n < length index → nat_lt moment (slice_index_or index n due).0.0 ≡ true

-- an index without what is at the time and the key, if there is a time
abbrev pub without_due : Option ℕ → List ℕ → List ((ℕ × List ℕ) × Item) → List ((ℕ × List ℕ) × Item)
without_due None key index = index
without_due (Some time) key index = where_key by_due (λ x. not (eq_by_cmp by_due (time, key) x)) index

-- an index with an item at a key, if it has a due time
abbrev pub with_due : Option ℕ → List ℕ → Item → List ((ℕ × List ℕ) × Item) → List ((ℕ × List ℕ) × Item)
with_due None key item index = index
with_due (Some time) key item index = put by_due (time, key) item index

-- when what is at a key is due
abbrev pub due_in : Option Item → Option ℕ
due_in None = None
due_in (Some item) = item.due
