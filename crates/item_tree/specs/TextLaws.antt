-- No text of items is a prefix of another.
use Rattle.std.proofs.Common.{◌≡◌, length, refl}
use Rattle.std.specs.Cmp.Lexicographic.{nat_list_cmp_total}
use Rattle.std.specs.FinMap.{entries, from_entries, IsAntisymmetric, nat_cmp-IsAntisymmetric, slice_cmp-IsAntisymmetric}
use Rattle.items.specs.Map.{Items, by_bytes}
use Rattle.wire.specs.Record.{IsPrefixFree}
use Rattle.wire.specs.Item.{entry_text}
use Rattle.wire.specs.ItemLaws.{entry_prefix_free}
use Rattle.wire.specs.FieldLaws.{list_prefix_free}
use Rattle.wire.specs.RowLaws.{made_of, marked}
use Rattle.merkle.specs.KeyPath.{path_bit, path_bits}
use Rattle.merkle.proofs.LawLemmas.{pairs_make, length_pairs}
use Rattle.item_tree.specs.Text.{path_entries, tree_text}

pub only_equal : IsAntisymmetric by_bytes
only_equal = slice_cmp-IsAntisymmetric nat_cmp-IsAntisymmetric

-- items are those of their entries, in whatever order
pub paths_make : (m : Items) → from_entries (path_entries m) ≡ m
paths_make m = pairs_make nat_list_cmp_total only_equal path_bit path_bits m

-- and as many
pub paths_count : (m : Items) → length (path_entries m) ≡ length (entries m)
paths_count m = length_pairs path_bit path_bits m

pub tree_prefix_free : IsPrefixFree tree_text
unfolding tree_text
tree_prefix_free = made_of (marked 6 (list_prefix_free entry_text entry_prefix_free)) tree_text path_entries from_entries paths_make (λ m. refl)
