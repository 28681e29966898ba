-- What the items that are alive answer.
use Rattle.std.proofs.Common.{◌≡◌, ℕ, true, List, sym, ap, ◌∙◌}
use Rattle.std.specs.FinMap.{is_sorted, entries, entries_sorted, get, get-entries, get-from_sorted}
use Rattle.std.specs.Cmp.Lexicographic.{nat_list_cmp_total}
use Rattle.std.proofs.lemmas.Map.Entries.{option_filter}
use Rattle.base.proofs.MapLemmas.{as_t, from_t, sorted_filter, find_filter}
use Rattle.items.specs.Map.{Items, by_bytes, alive, is_alive}

-- what is at a key of the items that are alive
pub get-alive : (m : Items) (moment : ℕ) (q : List ℕ) → get (alive m moment) q ≡ option_filter (is_alive moment) (get m q)
get-alive m moment q =
    let sorted : is_sorted by_bytes (entries m) ≡ true = from_t _ (entries_sorted m) in
    get-from_sorted by_bytes _ q (as_t _ (sorted_filter by_bytes (λ e. is_alive moment e.1) (entries m) sorted))
    ∙ find_filter nat_list_cmp_total (is_alive moment) q (entries m) sorted ∙ ap (option_filter (is_alive moment)) (sym (get-entries m q))
