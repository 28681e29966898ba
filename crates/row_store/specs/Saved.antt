-- What changes make of the rows of tables, and what a save leaves.
use Rattle.std.specs.Prelude.{◌≡◌, ◌<◌, ℕ, IsTrue, List, All, false}
use Rattle.std.specs.List.{fold, Any}
use Rattle.sqlite_disk.specs.Disk.{MoreFaults}
use Rattle.sqlite_trees.specs.declared.error.StoreError.{StoreError}
use Rattle.sqlite_trees.specs.declared.store.Shape.TheVariants as shape
use Rattle.sqlite_trees.specs.Tree.{Trees, rowid, put_row, without_rowid, with_tree}
use Rattle.sqlite_trees.specs.View.{View, HasCause, IsStorableRow, is_int}
use Rattle.row_store.specs.declared.change.RowChange.{RowChange}
use Rattle.row_store.specs.declared.change.RowChange.TheVariants.{Put, Remove}

-- a change of one of so many tables; a row that is put has a number
abbrev pub ChangeFits : ℕ → RowChange → Type 0
ChangeFits tables (Put table row) = (table < tables) × IsTrue (is_int (rowid row))
ChangeFits tables (Remove table number) = table < tables

abbrev pub ChangesFit : ℕ → List RowChange → Type 0
ChangesFit tables changes = All (ChangeFits tables) changes

-- the first trees are tables
abbrev pub HasTables : ℕ → View → Type 0
HasTables tables v = (t : ℕ) → t < tables → v.shape t ≡ shape.Table

-- the trees, with one change
abbrev pub after_one : Trees → RowChange → Trees
after_one trees (Put table row) = with_tree trees table (put_row row (trees table))
after_one trees (Remove table number) = with_tree trees table (without_rowid number (trees table))

-- the trees, with all changes in order
abbrev pub after : List RowChange → Trees → Trees
after changes trees = fold after_one trees changes

-- the transaction sees these trees, and nothing else has changed but cursors
pub record SeesRows (old : View) (trees : Trees) (new : View) : Type 0 where
  pub sound : new.is_broken ≡ old.is_broken
  pub is : new ≡ record old { trees = trees; cursors = new.cursors }

-- nothing is written that is not committed, unless the store is shut, and no shape either
pub record StoreRests (v : View) : Type 0 where
  pub trees : IsTrue v.is_open → v.trees ≡ v.committed
  pub sound : IsTrue v.is_open → v.is_broken ≡ false
  pub shape : v.shape ≡ v.committed_shape

-- the store was open and is open, and what is committed is what the changes make
pub record IsSaved (old : View) (changes : List RowChange) (new : View) : Type 0 where
  pub was_open : IsTrue old.is_open
  pub open_now : IsTrue new.is_open
  pub committed : new.committed ≡ after changes old.committed

-- if the store is open, it was open, and what is committed is what was
abbrev pub IsSame : View → View → Type 0
IsSame old new = IsTrue new.is_open → IsTrue old.is_open × (new.committed ≡ old.committed)

-- a row that a table of the store does not take
abbrev pub StoreRefuses : View → RowChange → Type 0
StoreRefuses v (Put table row) = ¬ IsStorableRow (v.reals table) row
StoreRefuses v (Remove table number) = ⊥

-- why one change may fail, with so many faults of the disk before it and after it
abbrev pub HasReasonOfOne : View → ℕ → ℕ → RowChange → StoreError → Type 0
HasReasonOfOne old before now change e = HasCause old (MoreFaults before now) (StoreRefuses old change) e

-- why a save may fail: no memory; a failure of the disk; the store was shut; a row that its table does not take
abbrev pub HasReason : View → ℕ → ℕ → List RowChange → StoreError → Type 0
HasReason old before now changes e = HasCause old (MoreFaults before now) (Any (StoreRefuses old) changes) e
