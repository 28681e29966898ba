-- What differs between two pages, as far as their digests tell.
use Rattle.std.specs.Prelude.{ℕ, List, [], ◌∷◌, Contains}
use Rattle.std.specs.FinMap.{entries}
use Rattle.items.specs.declared.item.Item.{Item}
use Rattle.items.specs.Map.{Items}
use Rattle.wire.specs.Distinct.{Distinct}
use Rattle.wire.specs.Item.{page_text}
use Rattle.merkle.specs.Laws.{TextsAreAmong}
use Rattle.merkle.specs.KeyPath.{path_bit}
use Rattle.merkle.specs.Differing.{AreDifferences}
use Rattle.item_tree.specs.Told.{items_texts}
use Rattle.item_tree.specs.Text.{path_entries}
use Rattle.pages.specs.declared.layout.Layout.{Layout}
use Rattle.pages.specs.declared.layout.Layout.TheVariants.{Sorted, Tree}

-- the texts that are hashed for the digest of a page
abbrev pub hashed_in : Layout → Items → List (List ℕ)
hashed_in Sorted m = page_text (entries m) ∷ []
hashed_in Tree m = items_texts m

-- Digests tell the texts apart that are hashed for the digests of both, each in its layout.
pub record ArePagesTold (l : Layout) (m : Items) (k : Layout) (n : Items) : Type 0 where
  pub texts : List (List ℕ)
  pub distinct : Distinct (Contains texts)
  pub old_among : TextsAreAmong (hashed_in l m) (Contains texts)
  pub new_among : TextsAreAmong (hashed_in k n) (Contains texts)

-- entries of both, in the order of paths: those whose paths begin with the same bits are shown together, or are the same in both if digests tell
abbrev pub ArePageDifferences : ℕ → Layout → Items → Layout → Items → (before now : List (List ℕ × Item)) → Type 0
ArePageDifferences front l m k n before now = AreDifferences path_bit front (ArePagesTold l m k n) (path_entries m) (path_entries n) before now
