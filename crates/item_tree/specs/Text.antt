-- The text of a page of items that a tree keeps.
use Rattle.std.specs.Prelude.{ℕ, List, ◌∷◌, ◌<◌, ◌^◌, length}
use Rattle.std.specs.FinMap.{entries}
use Rattle.items.specs.declared.item.Item.{Item}
use Rattle.items.specs.Map.{Items}
use Rattle.wire.specs.Field.{list_text}
use Rattle.wire.specs.Item.{entry_text}
use Rattle.merkle.specs.Digest.{map_pairs}
use Rattle.merkle.specs.KeyPath.{path_bit, path_bits}

-- the entries, in the order of their keys' paths
abbrev pub path_entries : Items → List (List ℕ × Item)
path_entries m = map_pairs path_bit path_bits m

unfoldable pub tree_text : Items → List ℕ
tree_text m = 6 ∷ list_text entry_text (path_entries m)

-- so many items as have a count
abbrev pub TreeFits : Items → Type 0
TreeFits m = length (entries m) < 2 ^ 32
