-- What a file has of a service, and what a process that begins later may find in it.
use Rattle.std.specs.Prelude.{◌≡◌, ◌⊎◌, ◌<◌, ◌^◌, ℕ, List, Option, None, Some, ⊤}
use Rattle.sqlite_trees.specs.Tree.{Trees}
use Rattle.sqlite_trees.specs.View.{View, IsClean}
use Rattle.folders.specs.declared.stamp.SaveStamp.{SaveStamp}
use Rattle.shelf.specs.declared.process.SavedProcess.{SavedProcess}
use Rattle.shelf.specs.Rows.{process_rows}
use Rattle.service.specs.Record.{RecordView}
use Rattle.data_folder.specs.Text.{IsServiceText}
use Rattle.data_folder.specs.declared.found_copy.FoundCopy.{FoundCopy}

-- what a save leaves of a service: when it was made, and the text
pub record SavedText : Type 0 where
  pub stamp : SaveStamp
  pub text : List ℕ

abbrev pub text_of_row : Option SavedProcess → Option SavedText
text_of_row None = None
text_of_row (Some saved) = Some (record { stamp = saved.stamp; text = saved.text })

-- its numbers have 64 bits
abbrev pub StampFits : SaveStamp → Type 0
StampFits stamp = (stamp.start < 2 ^ 64) × (stamp.save < 2 ^ 64)

abbrev pub RowFits : Option SavedProcess → Type 0
RowFits None = ⊤
RowFits (Some saved) = StampFits saved.stamp

-- the row of the process is of this save; or there is no such row
pub record HoldsText (db : Trees) (found : Option SavedText) : Type 0 where
  pub saved : Option SavedProcess
  pub fits : RowFits saved
  pub row : db 2 ≡ process_rows saved
  pub is : text_of_row saved ≡ found

abbrev pub HoldsSomeText : Trees → Type 0
HoldsSomeText db = ∥ ((found : Option SavedText) × HoldsText db found) ∥₁

-- the record of the text that a file has
pub record HasRecord (db : Trees) (stamp : SaveStamp) (r : RecordView) : Type 0 where
  pub text : List ℕ
  pub has : HoldsText db (Some (record { stamp = stamp; text = text }))
  pub is : IsServiceText r text

-- what a file has, if it has something
abbrev pub HasCopy : Trees → Option FoundCopy → Type 0
HasCopy db None = HoldsText db None
HasCopy db (Some c) = HasRecord db c.stamp c.service

-- it was read of this row
pub record IsCopyOf (saved : SavedProcess) (c : FoundCopy) : Type 0 where
  pub fits : StampFits saved.stamp
  pub stamp : c.stamp ≡ saved.stamp
  pub is : IsServiceText c.service saved.text

-- the row that a save writes is of this save
abbrev pub SavesText : SavedText → SavedProcess → Type 0
SavesText s saved = StampFits s.stamp × ((saved.stamp ≡ s.stamp) × (saved.text ≡ s.text))

-- A crash may leave this in the file, if the disk did as it is supposed to. `recovers` is what it may leave.
pub record MayFind (v : View) (recovers : Trees → Type 0) (found : Option SavedText) : Type 0 where
  pub clean : IsClean v
  pub db : Trees
  pub may : recovers db
  pub has : HoldsText db found

-- only this may be found
abbrev pub FindsOnly : (Option SavedText → Type 0) → SavedText → Type 0
FindsOnly may s = (found : Option SavedText) → may found → ∥ (found ≡ Some s) ∥₁

-- what may be found might be found before, or it is this
abbrev pub FindsOldOr : (Option SavedText → Type 0) → (Option SavedText → Type 0) → SavedText → Type 0
FindsOldOr before may s = (found : Option SavedText) → may found → before found ⊎ ∥ (found ≡ Some s) ∥₁

-- the text of a record that was read, with its stamp
pub record IsTextOf (c : FoundCopy) (found : Option SavedText) : Type 0 where
  pub text : List ℕ
  pub is : IsServiceText c.service text
  pub found_is : found ≡ Some (record { stamp = c.stamp; text = text })

-- what was read; or nothing, if nothing was read
abbrev pub IsFound : Option FoundCopy → Option SavedText → Type 0
IsFound None found = found ≡ None
IsFound (Some c) found = IsTextOf c found

-- only what was read may be found
abbrev pub FindsCopy : (Option SavedText → Type 0) → Option FoundCopy → Type 0
FindsCopy may c = (found : Option SavedText) → may found → ∥ IsFound c found ∥₁
