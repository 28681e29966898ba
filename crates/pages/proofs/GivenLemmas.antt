-- Pages of which old pages are given.
use Rattle.std.proofs.Common.{◌≡◌, ◌≢◌, ℕ, zero, suc, ◌+◌, ◌*◌, ◌<◌, Bool, true, false, cond, List, [], ◌∷◌, map, get_or, Some, None, Option, refl, sym, ap, ◌∙◌, arith}
use Rattle.std.specs.Prelude.{T, sum, ◌==◌, ◌%◌, filter, All, IfSome}
use Rattle.std.specs.List.{range_with_len}
use Rattle.std.specs.Ordering.{is_eq}
use Rattle.std.specs.FinMap.{find, entries, entries_sorted, from_sorted, get, get-entries, get-from_sorted, entries-from_sorted, is_sorted}
use Rattle.std.specs.FinMap.Entries.{is_sorted-where_key, find-where_key}
use Rattle.std.proofs.Math.Nat.{mod-lt}
use Rattle.std.proofs.lemmas.Bool.Decides.{nat_tests}
use Rattle.std.proofs.lemmas.List.FromFn.{length-map-range_with_len, get_or-map-range_with_len}
use Rattle.base.proofs.MapLemmas.{as_t}
use Rattle.items.specs.declared.item.Item.{Item}
use Rattle.items.specs.Map.{Items, by_bytes}
use Rattle.token.specs.declared.tree.TheConstants.{OLD_PAGES}
use Rattle.pages.specs.Page.{number_among, page_entries, page_number, page_count, of_each}
use Rattle.pages.specs.Joined.{IsOwn, AreOwn, ArePages, joined_pages}
use Rattle.pages.specs.Old.{old_entries, part_of_old, IsOldPage, AreGiven, given_at, given_or, part_given, page_over_old}
use Rattle.pages.proofs.KeyLemmas.{same_key, all_keys}
use Rattle.pages.proofs.JoinedLemmas.{no_items, joined_at, own-page, page_number-lt, same_number}
use Rattle.token.specs.Merged.{of_class}
use Rattle.pages.proofs.FormLemmas.{get_among}
use Rattle.pages.proofs.OldLemmas.{old-number, of_sum, part-small, part-of}

-- the map of these entries
abbrev made : List (List ℕ × Item) → Items
made es = from_sorted es

-- what is at a key in the part of some number
module _ (number : List ℕ → ℕ) (p : ℕ) (es : List (List ℕ × Item)) (rising : T (is_sorted by_bytes es)) where
  abbrev part : List (List ℕ × Item)
  part = filter (λ e. number e.0 == p) es

  pub sorted-part : T (is_sorted by_bytes part)
  sorted-part = is_sorted-where_key by_bytes (λ q. number q == p) es rising

  get-part : (q : List ℕ) → get (made part) q ≡ cond (number q == p) (find by_bytes q es) None
  get-part q =
      get-from_sorted by_bytes part q sorted-part
      ∙ find-where_key by_bytes (λ x. number x == p) q (λ x t. ap (λ y. number y == p) (sym (same_key q x (ap is_eq t)))) es

-- maps with the same items at the keys of an old page have the same entries there
same_old : (m n : Items) (p : ℕ) → ((q : List ℕ) → number_among OLD_PAGES q ≡ p → get m q ≡ get n q) → old_entries m p ≡ old_entries n p
same_old m n p same =
    sym (entries-from_sorted by_bytes (old_entries m p) (sorted-part (number_among OLD_PAGES) p (entries m) (entries_sorted m)))
    ∙ ap entries (all_keys (made (old_entries m p)) (made (old_entries n p)) at)
    ∙ entries-from_sorted by_bytes (old_entries n p) (sorted-part (number_among OLD_PAGES) p (entries n) (entries_sorted n))
  where
    at : (q : List ℕ) → get (made (old_entries m p)) q ≡ get (made (old_entries n p)) q
    at q =
        get-part (number_among OLD_PAGES) p (entries m) (entries_sorted m) q ∙ by (number_among OLD_PAGES q == p) refl
        ∙ sym (get-part (number_among OLD_PAGES) p (entries n) (entries_sorted n) q)
      where
        by : (b : Bool) → (number_among OLD_PAGES q == p) ≡ b → cond (number_among OLD_PAGES q == p) (find by_bytes q (entries m)) None ≡ cond (number_among OLD_PAGES q == p) (find by_bytes q (entries n)) None
        by true e =
            let here : number_among OLD_PAGES q ≡ p = grind (arith, nat_tests) in
            ap (λ x. cond (number_among OLD_PAGES q == p) x None) (sym (get-entries m q) ∙ same q here ∙ get-entries n q)
        by false e = rw e refl

-- entries that are all of one old page
all-own : (p : ℕ) (es : List (List ℕ × Item)) → All (λ e. number_among OLD_PAGES e.0 ≡ p) es → filter (λ e. number_among OLD_PAGES e.0 == p) es ≡ es
all-own p [] own = refl
all-own p (e ∷ es) own =
    let here : number_among OLD_PAGES e.0 ≡ p = own 0 e (omega arith) in
    let passes : (number_among OLD_PAGES e.0 == p) ≡ true = grind (arith, nat_tests) in
    let rest = all-own p es (λ k d l. own (suc k) d (omega arith)) in
    ap (λ b. cond b (e ∷ filter (λ x. number_among OLD_PAGES x.0 == p) es) (filter (λ x. number_among OLD_PAGES x.0 == p) es)) passes
    ∙ ap (λ xs. e ∷ xs) rest

module _ (before : List Items) (a : ArePages before) (given : List (Option (List (List ℕ × Item)))) (are : AreGiven given) where
  whole : Items
  whole = joined_pages before

  each : (n : ℕ) → IfSome (given_at given (n % OLD_PAGES)) (IsOldPage (n % OLD_PAGES))
  each n = are.each (n % OLD_PAGES) (mod-lt n (omega arith))

  own_given : (n : ℕ) (o : Option (List (List ℕ × Item))) → IfSome o (IsOldPage (n % OLD_PAGES)) → IsOwn n (part_given n (get_or before n no_items) o)
  own_given n None is = own-page before n a
  own_given n (Some es) is = λ q apart. get-part page_number n es (as_t _ is.fit.rising) q ∙ none_there q apart (page_number q == n) refl
    where
      none_there : (q : List ℕ) → page_number q ≢ n → (b : Bool) → (page_number q == n) ≡ b → cond b (find by_bytes q es) None ≡ None
      none_there q apart true e = absurd (apart (grind (arith, nat_tests)))
      none_there q apart false e = refl

  own_from : (p n : ℕ) → AreOwn p (map (page_over_old before given) (range_with_len p n))
  own_from p zero = tt
  own_from p (suc n) = (own_given p (given_at given (p % OLD_PAGES)) (each p), own_from (p + 1) n)

  -- they are pages
  pub given-pages : ArePages (of_each (page_over_old before given))
  given-pages = (length-map-range_with_len (page_over_old before given) 0 page_count, own_from 0 page_count)

  get_given : (q : List ℕ) → get (joined_pages (of_each (page_over_old before given))) q ≡ get (page_over_old before given (page_number q)) q
  get_given q =
      joined_at (of_each (page_over_old before given)) q given-pages
      ∙ ap (λ (m : Items). get m q) (get_or-map-range_with_len (page_over_old before given) 0 page_count (page_number q) (page_number q) no_items (page_number-lt q) (omega arith))

  -- what is at a key of old page p
  get_over : (p : ℕ) (o : Option (List (List ℕ × Item))) (q : List ℕ) → given_at given p ≡ o → number_among OLD_PAGES q ≡ p
      → get (joined_pages (of_each (page_over_old before given))) q ≡ get (part_given (page_number q) (get_or before (page_number q) no_items) o) q
  get_over p o q is here =
      get_given q ∙ ap (λ o. get (part_given (page_number q) (get_or before (page_number q) no_items) o) q) (ap (given_at given) (old-number q ∙ here) ∙ is)

  old_is : (p : ℕ) (o : Option (List (List ℕ × Item))) → given_at given p ≡ o → IfSome o (IsOldPage p) → old_entries (joined_pages (of_each (page_over_old before given))) p ≡ given_or (joined_pages before) p o
  old_is p None is own = same_old _ (joined_pages before) p (λ q here. get_over p None q is here ∙ sym (joined_at before q a))
  old_is p (Some es) is own =
      same_old _ (made es) p (λ q here.
      get_over p (Some es) q is here ∙ get-part page_number (page_number q) es (as_t _ own.fit.rising) q
      ∙ ap (λ b. cond b (find by_bytes q es) None) (same_number (page_number q)) ∙ sym (get-from_sorted by_bytes es q (as_t _ own.fit.rising)))
      ∙ ap (filter (λ e. number_among OLD_PAGES e.0 == p)) (entries-from_sorted by_bytes es (as_t _ own.fit.rising)) ∙ all-own p es own.own

  -- each old page has the entries that are given, or else those it had
  pub given-old : (p : ℕ) → p < OLD_PAGES → old_entries (joined_pages (of_each (page_over_old before given))) p ≡ given_or (joined_pages before) p (given_at given p)
  given-old p l = old_is p (given_at given p) refl (are.each p l)

-- maps with the same entries in the four pages of an old page have the same there
pub same-from_parts : (m n : Items) (p : ℕ) → p < OLD_PAGES → ((i : ℕ) → i < 4 → page_entries m (p + i * OLD_PAGES) ≡ page_entries n (p + i * OLD_PAGES)) → old_entries m p ≡ old_entries n p
same-from_parts m n p few same = same_old m n p (λ q here.
    let there : page_number q ≡ p + part_of_old q * OLD_PAGES = of_sum (sum q) p (part_of_old q) few here refl in
    get_among page_count m q
    ∙ ap (find by_bytes q) (ap (page_entries m) there ∙ same (part_of_old q) (part-small q) ∙ sym (ap (page_entries n) there))
    ∙ sym (get_among page_count n q))

pub parts-from_same : (m n : Items) (p i : ℕ) → p < OLD_PAGES → i < 4 → old_entries m p ≡ old_entries n p → page_entries m (p + i * OLD_PAGES) ≡ page_entries n (p + i * OLD_PAGES)
parts-from_same m n p i few small e = sym (part-of p i few small m) ∙ ap (of_class part_of_old i) e ∙ part-of p i few small n
