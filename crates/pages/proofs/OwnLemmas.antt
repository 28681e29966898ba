-- Whether a page has keys of its own number alone.
use Rattle.std.proofs.Common.{◌≡◌, ◌≢◌, ℕ, Bool, true, false, cond, List, [], ◌∷◌, Some, None, Option, refl, sym, ap, ◌∙◌, arith, subst}
use Rattle.std.specs.Prelude.{◌==◌}
use Rattle.std.specs.List.{list_all}
use Rattle.std.specs.Cmp.{eq_by_cmp_equiv}
use Rattle.std.specs.Cmp.Lexicographic.{nat_list_cmp_total}
use Rattle.std.specs.FinMap.{find, entries, get-entries, from_entries, get-from_entries, same_entries_map}
use Rattle.std.proofs.lemmas.Bool.{and_parts, and_from}
use Rattle.std.proofs.lemmas.Bool.Decides.{nat_tests}
use Rattle.items.specs.declared.item.Item.{Item}
use Rattle.items.specs.Map.{Items, by_bytes}
use Rattle.pages.specs.Page.{page_number}
use Rattle.item_tree.specs.Text.{path_entries}
use Rattle.item_tree.specs.TextLaws.{paths_make}
use Rattle.pages.specs.Layout.{entries_in}
use Rattle.pages.specs.declared.layout.Layout.{Layout}
use Rattle.pages.specs.declared.layout.Layout.TheVariants.{Sorted, Tree}
use Rattle.pages.specs.Joined.{IsOwn}
use Rattle.pages.proofs.KeyLemmas.{other_key}

found_none : {A : Type 0} (b : Bool) (x : A) (o : Option A) → cond b (Some x) o ≡ None → (b ≡ false) × (o ≡ None)
found_none true x o e = absurd (let no : Some x ≡ None = e in cc)
found_none false x o e = (refl, e)

module _ (p : ℕ) where
  abbrev pub is_of : List ℕ × Item → Bool
  is_of entry = page_number entry.0 == p

  number_is : (q : List ℕ) → (page_number q == p) ≡ true → page_number q ≡ p
  number_is q is = grind (arith, nat_tests)

  none_other : (es : List (List ℕ × Item)) (q : List ℕ) → list_all is_of es ≡ true → page_number q ≢ p → find by_bytes q es ≡ None
  none_other [] q all apart = refl
  none_other (e ∷ es) q all apart =
      let both = and_parts (page_number e.0 == p) (list_all is_of es) all in
      let here : page_number e.0 ≡ p = number_is e.0 both.0 in
      ap (λ b. cond b (Some e.1) (find by_bytes q es)) (other_key q e.0 (λ same. apart (same ∙ here))) ∙ none_other es q both.1 apart

  all_own : (es : List (List ℕ × Item)) → ((q : List ℕ) → page_number q ≢ p → find by_bytes q es ≡ None) → list_all is_of es ≡ true
  all_own [] none = refl
  all_own (e ∷ es) none = and_from _ _ (by (page_number e.0 == p) refl) (all_own es (λ q apart. (found_none _ _ _ (none q apart)).1))
    where
      by : (b : Bool) → (page_number e.0 == p) ≡ b → (page_number e.0 == p) ≡ true
      by true is = is
      by false is =
          let other : page_number e.0 ≢ p = grind (arith, nat_tests) in
          let no : true ≡ false = sym ((eq_by_cmp_equiv nat_list_cmp_total).refl e.0) ∙ (found_none _ _ _ (none e.0 other)).0 in
          absurd cc

  pub own-from_all : (m : Items) → list_all is_of (entries m) ≡ true → IsOwn p m
  own-from_all m all q apart = get-entries m q ∙ none_other (entries m) q all apart

  pub all-from_own : (m : Items) → IsOwn p m → list_all is_of (entries m) ≡ true
  all-from_own m own = all_own (entries m) (λ q apart. sym (get-entries m q) ∙ own q apart)

  -- the same of entries in whatever order
  own-from_list : (es : List (List ℕ × Item)) → list_all is_of es ≡ true → IsOwn p (from_entries es)
  own-from_list es all q apart = get-from_entries nat_list_cmp_total es q ∙ none_other es q all apart

  list-from_own : (es : List (List ℕ × Item)) → IsOwn p (from_entries es) → list_all is_of es ≡ true
  list-from_own es own = all_own es (λ q apart. sym (get-from_entries nat_list_cmp_total es q) ∙ own q apart)

  -- and in the order of a layout
  pub own-in_layout : (layout : Layout) (m : Items) → list_all is_of (entries_in layout m) ≡ true → IsOwn p m
  own-in_layout Sorted m all = own-from_all m all
  own-in_layout Tree m all = subst (IsOwn p) (paths_make m) (own-from_list (path_entries m) all)

  pub all-in_layout : (layout : Layout) (m : Items) → IsOwn p m → list_all is_of (entries_in layout m) ≡ true
  all-in_layout Sorted m own = all-from_own m own
  all-in_layout Tree m own = list-from_own (path_entries m) (subst (IsOwn p) (sym (paths_make m)) own)

-- entries in the order of a layout tell the items
pub entries_tell : (layout : Layout) (m n : Items) → entries_in layout m ≡ entries_in layout n → m ≡ n
entries_tell Sorted m n e = same_entries_map m n e
entries_tell Tree m n e = sym (paths_make m) ∙ ap from_entries e ∙ paths_make n
