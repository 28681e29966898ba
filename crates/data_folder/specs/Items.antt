-- The items that a file says, and those of the state that was saved.
use Rattle.std.specs.Prelude.{◌≡◌, ◌⊎◌, ◌<◌, ◌^◌, ℕ, List, Option, None, Some, IsTrue}
use Rattle.items.specs.Map.{Items}
use Rattle.sqlite_value.specs.Order.{Row}
use Rattle.sqlite_trees.specs.Tree.{Trees}
use Rattle.sqlite_trees.specs.View.{View, IsClean}
use Rattle.pages.specs.Page.{Laid}
use Rattle.pages.specs.Form.{layout_of}
use Rattle.item_rows.specs.Changes.{Rows}
use Rattle.item_rows.specs.Changed.{rows_of, AreSnapshotsTold}
use Rattle.shelf.specs.declared.waiting.WaitingChanges.{WaitingChanges}
use Rattle.shelf.specs.InMemory.{items_in}
use Rattle.shelf.specs.WaitingView.{SaysItems}
use Rattle.states.specs.State.{StateView, initial_state}
use Rattle.service.specs.Record.{RecordView}
use Rattle.data_folder.specs.Text.{IsServiceText}
use Rattle.data_folder.specs.Found.{SavedText, HoldsText}
use Rattle.data_folder.specs.declared.found_copy.FoundCopy.{FoundCopy}

-- ---- what a file says

-- each row is that of these items
abbrev pub AreRowsOf : Rows Row → Items → Type 0
AreRowsOf rows m = (p : ℕ) → p < 2 ^ 63 → rows p ≡ rows_of m p

-- The rows of items in the file, with its changes over them in order, are the rows of these items.
pub record SaysItemsOf (db : Trees) (m : Items) : Type 0 where
  pub rows : Rows Row
  pub says : SaysItems db rows
  pub are : AreRowsOf rows m

-- The file has the text of this save, and the items of this state.
pub record HoldsRecord (db : Trees) (s : SavedText) (state : StateView) : Type 0 where
  pub text : HoldsText db (Some s)
  pub items : SaysItemsOf db state.items

-- a crash may leave this file, if the disk did as it is supposed to
pub record CrashLeaves (v : View) (recovers : Trees → Type 0) (db : Trees) : Type 0 where
  pub clean : IsClean v
  pub may : recovers db

-- ---- whose state it is

-- this text is one of this record, with this state
pub record IsTextWith (r : RecordView) (t : List ℕ) (state : StateView) : Type 0 where
  pub text : IsServiceText r t
  pub same : text.state ≡ state

abbrev pub TellsState : RecordView → List ℕ → StateView → Type 0
TellsState r t state = ∥ IsTextWith r t state ∥₁

-- it was read with this state
pub record IsReadWith (c : FoundCopy) (state : StateView) : Type 0 where
  pub text : List ℕ
  pub is : IsTextWith c.service text state

-- the record that was found is of this state; if none was, the state is the first one
abbrev pub IsStateFound : Option FoundCopy → StateView → Type 0
IsStateFound None state = state ≡ initial_state
IsStateFound (Some c) state = IsReadWith c state

-- ---- what is known of the file

abbrev pub laid_of : StateView → Laid
laid_of s = record { items = s.items; layout = layout_of s.form }

-- digests tell the texts apart that are hashed for the digests of the pages of both states
abbrev pub AreStatesTold : StateView → StateView → Type 0
AreStatesTold old new = AreSnapshotsTold (laid_of old) (laid_of new)

-- The last state that was read or saved is this one, and while the file is open it says the items of this state: its rows, with the changes over them.
pub record HasItemsOf (v : View) (waiting : WaitingChanges) (last s : StateView) : Type 0 where
  pub last_is : last ≡ s
  pub items : IsClean v → IsTrue v.is_open → AreRowsOf (items_in v.committed waiting) s.items

module _ (may_leave : Trees → Type 0) (has_items : StateView → Type 0) where
  -- A file that was opened has the items of the state of the record that was found, if digests tell them from none.
  pub record OpensWith (c : Option FoundCopy) : Type 0 where
    pub state : StateView
    pub found : IsStateFound c state
    pub items : AreStatesTold initial_state state → has_items state
    pub left : AreStatesTold initial_state state → (db : Trees) → may_leave db → ∥ SaysItemsOf db state.items ∥₁

  -- A crash leaves the text of this save and the items of this state, and nothing else.
  pub record LeavesRecord (s : SavedText) (state : StateView) : Type 0 where
    pub items : has_items state
    pub left : (db : Trees) → may_leave db → ∥ HoldsRecord db s state ∥₁

-- what a crash may leave it might leave before, or it is the text of this save with the items of this state
abbrev pub LeavesOldOr : (Trees → Type 0) → (Trees → Type 0) → SavedText → StateView → Type 0
LeavesOldOr before may_leave s state = (db : Trees) → may_leave db → before db ⊎ ∥ HoldsRecord db s state ∥₁
