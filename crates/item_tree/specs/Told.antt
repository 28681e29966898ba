-- What the digest of items tells.
use Rattle.std.specs.Prelude.{◌≡◌, ℕ, List, Contains}
use Rattle.items.specs.Map.{Items}
use Rattle.merkle.specs.Digest.{map_digest, map_texts}
use Rattle.wire.specs.Distinct.{Distinct}
use Rattle.merkle.specs.Laws.{TextsAreAmong}
use Rattle.merkle.specs.KeyPath.{path_bit, path_bits}
use Rattle.merkle.specs.ItemLeaf.{item_leaf}

-- of items, as a tree over the bits of their keys' paths
abbrev pub items_digest : Items → List ℕ
items_digest m = map_digest item_leaf path_bit path_bits m

abbrev pub items_texts : Items → List (List ℕ)
items_texts m = map_texts item_leaf path_bit path_bits m

-- items that have one digest are the same, if digests tell apart the texts that they are made of
abbrev pub TellsItems : Type 0
TellsItems = (texts : List (List ℕ)) → Distinct (Contains texts) → (m n : Items) → TextsAreAmong (items_texts m) (Contains texts) → TextsAreAmong (items_texts n) (Contains texts) → items_digest m ≡ items_digest n → m ≡ n
