-- The entries of items, by their keys and by their keys' paths.
use Rattle.std.proofs.Common.{◌≡◌, sym, ◌∙◌}
use Rattle.std.specs.Cmp.Lexicographic.{nat_list_cmp_total}
use Rattle.std.specs.FinMap.{entries, from_entries, get-entries, get-from_entries, same_map, IsAntisymmetric, nat_cmp-IsAntisymmetric, slice_cmp-IsAntisymmetric}
use Rattle.items.specs.Map.{Items, by_bytes}

only_equal : IsAntisymmetric by_bytes
only_equal = slice_cmp-IsAntisymmetric nat_cmp-IsAntisymmetric

pub entries_make : (m : Items) → from_entries (entries m) ≡ m
entries_make m = same_map nat_list_cmp_total only_equal _ _ (λ q. get-from_entries nat_list_cmp_total (entries m) q ∙ sym (get-entries m q))
