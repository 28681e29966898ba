-- What the text of a page asks of its items, and edits that leave the items as they are.
use Rattle.std.proofs.Common.{◌≡◌, ℕ, suc, ◌+◌, ◌≤◌, ◌⊎◌, inl, inr, Bool, true, false, cond, not, List, [], ◌∷◌, length, Some, None, Option, refl, sym, ap, ◌∙◌, arith, subst}
use Rattle.std.specs.Prelude.{filter, IfSome}
use Rattle.std.specs.Option.{is_some, option_copied}
use Rattle.std.specs.Borrow.{Bor}
use Rattle.std.specs.Ordering.{eq_by_cmp}
use Rattle.std.specs.Cmp.Lexicographic.{nat_list_cmp_total}
use Rattle.std.specs.FinMap.{entries, entries_sorted, from_sorted, insert, remove, get, get-remove, len-entries, len-empty, len-insert, entries-from_sorted, nat_cmp-IsAntisymmetric, slice_cmp-IsAntisymmetric}
use Rattle.std.specs.FinMap.Entries.{where_key}
use Rattle.base.proofs.MapLemmas.{as_t, from_t, from_sorted_is, map_remove, sorted_filter, sorted_without}
use Rattle.items.specs.declared.item.Item.{Item}
use Rattle.items.specs.Map.{Items, by_bytes, alive, is_alive}
use Rattle.wire.specs.Item.{page_text, PageFits}
use Rattle.token.specs.Digested.{DigestedView, IsDigested}
use Rattle.pages.specs.Page.{IsPage, HasRoom}
use Rattle.pages.specs.declared.page.TheConstants.{MOST_ENTRIES}
use Rattle.pages.proofs.KeyLemmas.{same_key, all_keys}
use Rattle.pages.proofs.JoinedLemmas.{no_items}

pub length_filter : {X : Type 0} (p : X → Bool) (xs : List X) → length (filter p xs) ≤ length xs
length_filter p [] = omega arith
length_filter p (x ∷ xs) = elim (p x) as (λ b. length (cond b (x ∷ filter p xs) (filter p xs)) ≤ suc (length xs)) [
  | true ↦ omega (arith, length_filter p xs)
  | false ↦ omega (arith, length_filter p xs)
]

pub fits-filter : (p : List ℕ × Item → Bool) (es : List (List ℕ × Item)) → PageFits es → PageFits (filter p es)
fits-filter p es fits = omega (arith, fits, length_filter p es)

-- the map of a map's entries
pub same_map_of : (m : Items) → from_sorted (entries m) ≡ m
same_map_of m = from_sorted_is (entries m) m refl (from_t _ (entries_sorted m))

entries-remove : (m : Items) (k : List ℕ) → entries (remove m k) ≡ where_key by_bytes (λ x. not (eq_by_cmp by_bytes k x)) (entries m)
entries-remove m k =
    let sorted = from_t _ (entries_sorted m) in
    ap entries (sym (map_remove nat_list_cmp_total (slice_cmp-IsAntisymmetric nat_cmp-IsAntisymmetric) k (entries m) sorted ∙ ap (λ n. remove n k) (same_map_of m)))
    ∙ entries-from_sorted by_bytes _ (as_t _ (sorted_without nat_list_cmp_total (λ x. not (eq_by_cmp by_bytes k x)) (entries m) sorted))

pub entries-alive : (m : Items) (moment : ℕ) → entries (alive m moment) ≡ filter (λ e. is_alive moment e.1) (entries m)
entries-alive m moment = entries-from_sorted by_bytes _ (as_t _ (sorted_filter by_bytes (λ e. is_alive moment e.1) (entries m) (from_t _ (entries_sorted m))))

-- no items
pub fits-empty : PageFits (entries no_items)
fits-empty = let none : length (entries no_items) ≡ 0 = sym (len-entries no_items) ∙ len-empty by_bytes Item in omega (arith, none)

length-insert : (m : Items) (k : List ℕ) (v : Item) → length (entries (insert m k v)) ≡ cond (is_some (get m k)) (length (entries m)) (length (entries m) + 1)
length-insert m k v = sym (len-entries (insert m k v)) ∙ len-insert nat_list_cmp_total m k v ∙ ap (λ n. cond (is_some (get m k)) n (n + 1)) (len-entries m)

-- an item for which there is room, or that is in the place of another
pub fits-insert : (m : Items) (k : List ℕ) (v : Item) → PageFits (entries m) → HasRoom m k → PageFits (entries (insert m k v))
fits-insert m k v fits (inl few) = by (is_some (get m k)) refl
  where
    by : (b : Bool) → is_some (get m k) ≡ b → PageFits (entries (insert m k v))
    by true e = omega (arith, fits, length-insert m k v ∙ ap (λ b. cond b (length (entries m)) (length (entries m) + 1)) e)
    by false e = omega (arith, few, length-insert m k v ∙ ap (λ b. cond b (length (entries m)) (length (entries m) + 1)) e)
fits-insert m k v fits (inr there) = omega (arith, fits, length-insert m k v ∙ ap (λ b. cond b (length (entries m)) (length (entries m) + 1)) there)

-- if a page has as many as it may have, there is room at its keys alone
pub room-there : (m : Items) (k : List ℕ) → MOST_ENTRIES ≤ length (entries m) → HasRoom m k → is_some (get m k) ≡ true
room-there m k full (inl few) = absurd (omega (arith, full, few))
room-there m k full (inr there) = there

pub fits-remove : (m : Items) (k : List ℕ) → PageFits (entries m) → PageFits (entries (remove m k))
fits-remove m k fits = subst PageFits (sym (entries-remove m k)) (fits-filter _ (entries m) fits)

pub fits-alive : (m : Items) (moment : ℕ) → PageFits (entries m) → PageFits (entries (alive m moment))
fits-alive m moment fits = subst PageFits (sym (entries-alive m moment)) (fits-filter _ (entries m) fits)

-- what is not there cannot be removed
pub remove-absent : (m : Items) (k : List ℕ) → get m k ≡ None → remove m k ≡ m
remove-absent m k none = all_keys _ _ (λ q. get-remove nat_list_cmp_total m k q ∙ by q (eq_by_cmp by_bytes q k) refl)
  where
    by : (q : List ℕ) (b : Bool) → eq_by_cmp by_bytes q k ≡ b → cond b None (get m q) ≡ get m q
    by q true e = sym (ap (get m) (same_key q k e) ∙ none)
    by q false e = refl

-- a page whose digest is to be recomputed
pub page-written : (m n : Items) (kept : Option DigestedView) → m ≡ n → kept ≡ None → PageFits (entries n) → IsPage m kept
page-written m n kept same gone fits = record {
  fits = subst (λ (k : Items). PageFits (entries k)) (sym same) fits;
  from_scratch = subst (λ (k : Option DigestedView). IfSome k (IsDigested (page_text (entries m)))) (sym gone) tt;
}

-- a value that was handed over, or else copied
pub copied-either : {A : Type 0} (x y : A) → (x ≡ y) ⊎ (x ≡ y) → x ≡ y
copied-either x y (inl e) = e
copied-either x y (inr e) = e

is_some-copied : {A : Type 0} (r : Option (Bor A)) → is_some (option_copied r) ≡ is_some r
is_some-copied None = refl
is_some-copied (Some x) = refl

-- whether something was found
pub found-is : {A : Type 0} (r : Option (Bor A)) (o : Option A) (b : Bool) → option_copied r ≡ o → b ≡ is_some r → is_some o ≡ b
found-is r o b e is = ap is_some (sym e) ∙ is_some-copied r ∙ sym is

pub none-found : {A : Type 0} (o : Option A) → is_some o ≡ false → o ≡ None
none-found None e = refl
none-found (Some x) e = absurd (let no : true ≡ false = e in cc)
