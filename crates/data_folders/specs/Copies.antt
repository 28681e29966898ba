-- Copies of a record in several folders, and what a later start finds among them.
use Rattle.std.specs.Prelude.{◌≡◌, ◌⊎◌, ℕ, Bool, true, false, not, is_some, List, length, map, count_by, slice_index_or, Option, None, Some, ⊤}
use Rattle.std.specs.List.{AllZip, AllByRecursion}
use Rattle.folders.specs.declared.stamp.SaveStamp.{SaveStamp}
use Rattle.folders.specs.Folders.{is_later_save, IsMajority, IsNewest}
use Rattle.service.specs.Record.{RecordView}
use Rattle.data_folder.specs.Found.{SavedText, FindsOnly, FindsOldOr, FindsCopy}
use Rattle.data_folder.specs.declared.found_copy.FoundCopy.{FoundCopy}
use Rattle.data_folders.specs.declared.slot.FolderSlot.{FolderSlot}

-- ---- what a later start finds

abbrev pub stamp_of : Option SavedText → Option SaveStamp
stamp_of None = None
stamp_of (Some s) = Some s.stamp

-- A start that reads these, one of each folder, begins with this text: more than half of the folders are read, and it is
-- that of the newest.
pub record BeginsWithNewest (reads : List (Option SavedText)) (text : List ℕ) : Type 0 where
  pub majority : IsMajority (count_by is_some reads) (length reads)
  pub at : ℕ
  pub newest : IsNewest (map stamp_of reads) at
  pub is : slice_index_or reads at None ≡ Some (record { stamp = newest.stamp; text = text })

-- the last save succeeded in it
abbrev pub is_current : {F : Type 0} → FolderSlot F → Bool
is_current slot = not (is_some slot.fault)

-- the last save is in more than half of the folders, or there is one folder
abbrev pub IsClaimed : {F : Type 0} → List (FolderSlot F) → Type 0
IsClaimed slots = (length slots ≡ 1) ⊎ IsMajority (count_by is_current slots) (length slots)

module _ {F : Type 0} (may_find : F → Option SavedText → Type 0) where
  -- what its copy may have; and of a folder that was not opened a save that is not after the first of this start
  abbrev pub MayHave : SaveStamp → Option F → SavedText → Type 0
  MayHave first None s = is_later_save s.stamp first ≡ false
  MayHave first (Some copy) s = may_find copy (Some s)

  -- what may be read of a folder: nothing, since each one may be lost; or what it may have
  abbrev pub MayRead : SaveStamp → FolderSlot F → Option SavedText → Type 0
  MayRead first slot None = ⊤
  MayRead first slot (Some s) = MayHave first slot.copy s

  -- it may have no copy, if it is open
  abbrev pub MayHaveNone : Option F → Type 0
  MayHaveNone None = ⊤
  MayHaveNone (Some copy) = may_find copy None

  -- a start that reads what it may begins with this text
  pub record FindsAmong (first : SaveStamp) (slots : List (FolderSlot F)) (text : List ℕ) : Type 0 where
    pub reads : List (Option SavedText)
    pub may : AllZip (MayRead first) slots reads
    pub begins : BeginsWithNewest reads text

  -- what a later start may begin with: a text; or nothing, if no folder has a copy
  abbrev pub MayFindAmong : SaveStamp → List (FolderSlot F) → Option (List ℕ) → Type 0
  MayFindAmong first slots None = AllByRecursion (λ slot. MayHaveNone slot.copy) slots
  MayFindAmong first slots (Some text) = FindsAmong first slots text

  -- ---- what a save does

  -- its copy, if it is open, has no later save
  abbrev pub IsBounded : SaveStamp → FolderSlot F → Type 0
  IsBounded last slot = (copy : F) → slot.copy ≡ Some copy → (s : SavedText) → may_find copy (Some s) → is_later_save s.stamp last ≡ false

  -- it has a copy, and only this save may be found in it
  pub record HoldsSave (s : SavedText) (slot : FolderSlot F) : Type 0 where
    pub copy : F
    pub there : slot.copy ≡ Some copy
    pub only : FindsOnly (may_find copy) s

  -- one folder, before a save of this and after it
  pub record SlotSaves (s : SavedText) (old new : FolderSlot F) : Type 0 where
    pub same : is_some new.copy ≡ is_some old.copy
    pub saved : is_current new ≡ true → HoldsSave s new
    pub crash : (before copy : F) → old.copy ≡ Some before → new.copy ≡ Some copy → FindsOldOr (may_find before) (may_find copy) s

  abbrev pub AllSave : SavedText → List (FolderSlot F) → List (FolderSlot F) → Type 0
  AllSave s old new = AllZip (SlotSaves s) old new

  -- ---- what a start has opened

  -- only what was found may be found; nothing was found in a folder that was not opened
  abbrev pub IsFoundIn : Option F → Option FoundCopy → Type 0
  IsFoundIn None found = found ≡ None
  IsFoundIn (Some copy) found = FindsCopy (may_find copy) found

  abbrev pub OpensAs : FolderSlot F → Option FoundCopy → Type 0
  OpensAs slot found = IsFoundIn slot.copy found

abbrev pub found_stamp : Option FoundCopy → Option SaveStamp
found_stamp None = None
found_stamp (Some found) = Some found.stamp

abbrev pub stamps_in : List (Option FoundCopy) → List (Option SaveStamp)
stamps_in finds = map found_stamp finds

-- more than half of the folders were read, and the copy in this slot is the newest
pub record IsNewestCopy (finds : List (Option FoundCopy)) (at : ℕ) : Type 0 where
  pub majority : IsMajority (count_by is_some (stamps_in finds)) (length (stamps_in finds))
  pub newest : IsNewest (stamps_in finds) at

-- more than half of the folders were read, and this is the record of the newest
pub record IsNewestRecord (finds : List (Option FoundCopy)) (r : RecordView) : Type 0 where
  pub at : ℕ
  pub newest : IsNewestCopy finds at
  pub found : FoundCopy
  pub there : slice_index_or finds at None ≡ Some found
  pub is : found.service ≡ r
