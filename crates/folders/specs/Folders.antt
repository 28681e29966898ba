-- Folders with a copy of one record each, and which of the copies counts.
use Rattle.std.specs.Prelude.{◌≡◌, ℕ, ◌+◌, ◌<◌, ◌==◌, ◌||◌, ◌&&◌, Bool, true, false, nat_lt, if◌then◌else◌, List, length, slice_index_or, All, Option, Some, None, ⊤}
use Rattle.folders.specs.declared.stamp.SaveStamp.{SaveStamp}

-- the first is of a later start, or of a later save of the same start
abbrev pub is_later_save : SaveStamp → SaveStamp → Bool
is_later_save a b = nat_lt b.start a.start || ((a.start == b.start) && nat_lt b.save a.save)

-- so many are more than half of all
abbrev pub IsMajority : ℕ → ℕ → Type 0
IsMajority some all = all < some + some

-- it was not read, or it is this one or an earlier one
abbrev pub IsNoLater : SaveStamp → Option SaveStamp → Type 0
IsNoLater newest None = ⊤
IsNoLater newest (Some stamp) = is_later_save stamp newest ≡ false

-- it was read, and none that was read is later
pub record IsNewest (stamps : List (Option SaveStamp)) (at : ℕ) : Type 0 where
  pub stamp : SaveStamp
  pub within : at < length stamps
  pub is : slice_index_or stamps at None ≡ Some stamp
  pub no_later : All (IsNoLater stamp) stamps

-- one of several folders
pub record Folder : Type 0 where
  -- of the record that it has
  pub stamp : SaveStamp
  pub is_readable : Bool
  -- whether a certain save was done in it
  pub is_saved : Bool

-- what is read of it at a start
abbrev pub found_in : Folder → Option SaveStamp
found_in f = if f.is_readable then Some f.stamp else None

abbrev pub is_saved_in : Folder → Bool
is_saved_in f = f.is_saved

-- it has this save, or a later one
abbrev pub HasSave : SaveStamp → Folder → Type 0
HasSave save f = f.is_saved ≡ true → is_later_save save f.stamp ≡ false

-- the newest one so far, with its index, after another one, if that was read: the first of equal ones stays
abbrev pub later_of : Option (ℕ × SaveStamp) → ℕ → Option SaveStamp → Option (ℕ × SaveStamp)
later_of newest at None = newest
later_of None at (Some stamp) = Some (at, stamp)
later_of (Some best) at (Some stamp) = if is_later_save stamp best.1 then Some (at, stamp) else Some best

-- of the first n, this one was read, and none is later
pub record IsBest (stamps : List (Option SaveStamp)) (n : ℕ) (best : ℕ × SaveStamp) : Type 0 where
  pub within : best.0 < n
  pub is : slice_index_or stamps best.0 None ≡ Some best.1
  pub no_later : (k : ℕ) → k < n → IsNoLater best.1 (slice_index_or stamps k None)

-- of the first n this one is the newest that was read, with its index; or none was read
abbrev pub IsNewestOf : List (Option SaveStamp) → ℕ → Option (ℕ × SaveStamp) → Type 0
IsNewestOf stamps n None = (k : ℕ) → k < n → slice_index_or stamps k None ≡ None
IsNewestOf stamps n (Some best) = IsBest stamps n best
