-- A page as a part of the whole map.
use Rattle.std.proofs.Common.{◌≡◌, ◌≢◌, ℕ, zero, suc, ◌+◌, Bool, true, false, cond, List, map, get_or, None, refl, sym, ap, ◌∙◌, arith}
use Rattle.std.specs.Prelude.{T, ◌==◌}
use Rattle.std.specs.List.{range_with_len}
use Rattle.std.specs.Ordering.{is_eq}
use Rattle.std.specs.FinMap.{entries, entries_sorted, is_sorted, get, get-entries, get-from_sorted, entries-from_sorted}
use Rattle.std.specs.FinMap.Entries.{is_sorted-where_key, find-where_key}
use Rattle.std.proofs.lemmas.Bool.Decides.{nat_tests}
use Rattle.std.proofs.lemmas.List.FromFn.{length-map-range_with_len, get_or-map-range_with_len, fill_by_all}
use Rattle.items.specs.Map.{Items, by_bytes}
use Rattle.pages.specs.Page.{page_number, page_count, page_entries, page_items}
use Rattle.pages.specs.Joined.{IsOwn, AreOwn, ArePages, joined_pages, parts}
use Rattle.pages.proofs.KeyLemmas.{same_key, all_keys}
use Rattle.pages.proofs.JoinedLemmas.{joined_at, own-page, page_number-lt, same_number, no_items}

module _ (m : Items) (p : ℕ) where
  is_own : List ℕ → Bool
  is_own q = page_number q == p

  sorted_page : T (is_sorted by_bytes (page_entries m p))
  sorted_page = is_sorted-where_key by_bytes (λ q. page_number q == p) (entries m) (entries_sorted m)

  -- the map of a page's entries has those entries
  pub entries-page_items : entries (page_items m p) ≡ page_entries m p
  entries-page_items = entries-from_sorted by_bytes (page_entries m p) sorted_page

  -- what is at a key of the page is what is there in the whole
  pub get-page_items : (q : List ℕ) → get (page_items m p) q ≡ cond (page_number q == p) (get m q) None
  get-page_items q =
      get-from_sorted by_bytes (page_entries m p) q sorted_page
      ∙ find-where_key by_bytes (λ x. page_number x == p) q (λ x t. ap (λ y. page_number y == p) (sym (same_key q x (ap is_eq t)))) (entries m)
      ∙ ap (λ x. cond (page_number q == p) x None) (sym (get-entries m q))

  own-page_items : IsOwn p (page_items m p)
  own-page_items q apart = get-page_items q ∙ by (page_number q == p) refl
    where
      by : (b : Bool) → (page_number q == p) ≡ b → cond b (get m q) None ≡ None
      by true e = absurd (apart (grind (arith, nat_tests)))
      by false e = refl

-- a page of the whole is the part of its number
pub page-items : (pages : List Items) (i : ℕ) → ArePages pages → get_or pages i no_items ≡ page_items (joined_pages pages) i
page-items pages i a = all_keys _ _ (λ q.
    sym (get-page_items (joined_pages pages) i q ∙ ap (λ x. cond (page_number q == i) x None) (joined_at pages q a) ∙ at q (page_number q == i) refl))
  where
    at : (q : List ℕ) (b : Bool) → (page_number q == i) ≡ b → cond b (get (get_or pages (page_number q) no_items) q) None ≡ get (get_or pages i no_items) q
    at q true e =
        let here : page_number q ≡ i = grind (arith, nat_tests) in
        ap (λ n. get (get_or pages n no_items) q) here
    at q false e =
        let other : page_number q ≢ i = grind (arith, nat_tests) in
        sym (own-page pages i a q other)

-- and its entries are those of the whole whose keys have its number
pub page-entries : (pages : List Items) (i : ℕ) → ArePages pages → entries (get_or pages i no_items) ≡ page_entries (joined_pages pages) i
page-entries pages i a = ap entries (page-items pages i a) ∙ entries-page_items (joined_pages pages) i

own_parts : (m : Items) (p n : ℕ) → AreOwn p (map (page_items m) (range_with_len p n))
own_parts m p zero = tt
own_parts m p (suc n) = (own-page_items m p, own_parts m (p + 1) n)

-- the parts of a map are pages
pub parts-are : (m : Items) → ArePages (parts m)
parts-are m = (length-map-range_with_len (page_items m) 0 page_count, own_parts m 0 page_count)

-- which are that map together
pub joined-parts : (m : Items) → joined_pages (parts m) ≡ m
joined-parts m = all_keys _ _ (λ q.
    joined_at (parts m) q (parts-are m)
    ∙ ap (λ n. get n q) (get_or-map-range_with_len (page_items m) 0 page_count (page_number q) (page_number q) no_items (page_number-lt q) (omega arith))
    ∙ get-page_items m (page_number q) q ∙ ap (λ b. cond b (get m q) None) (same_number (page_number q)))

-- and the parts of joined pages are those pages
pub parts-joined : (pages : List Items) → ArePages pages → parts (joined_pages pages) ≡ pages
parts-joined pages a = sym (fill_by_all (page_items (joined_pages pages)) pages page_count no_items a.0 (λ k l. page-items pages k a))
