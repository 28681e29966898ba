-- What differs between old and new items, as far as the digests in their trees tell.
use Rattle.std.specs.Prelude.{ℕ, List, Contains}
use Rattle.items.specs.declared.item.Item.{Item}
use Rattle.items.specs.Map.{Items}
use Rattle.wire.specs.Distinct.{Distinct}
use Rattle.merkle.specs.Laws.{TextsAreAmong}
use Rattle.merkle.specs.KeyPath.{path_bit}
use Rattle.merkle.specs.Differing.{AreDifferences}
use Rattle.item_tree.specs.Told.{items_texts}
use Rattle.item_tree.specs.Text.{path_entries}

-- Digests tell the texts apart that are hashed for the digests of both.
pub record AreItemsTold (m n : Items) : Type 0 where
  pub texts : List (List ℕ)
  pub distinct : Distinct (Contains texts)
  pub old_among : TextsAreAmong (items_texts m) (Contains texts)
  pub new_among : TextsAreAmong (items_texts n) (Contains texts)

-- entries of both, in the order of paths: those whose paths begin with the same bits are shown together, or are the same in both if digests tell
abbrev pub AreItemDifferences : ℕ → Items → Items → (before now : List (List ℕ × Item)) → Type 0
AreItemDifferences front old new before now = AreDifferences path_bit front (AreItemsTold old new) (path_entries old) (path_entries new) before now
