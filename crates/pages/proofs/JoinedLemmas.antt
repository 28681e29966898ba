-- What the map of all pages answers, and what an edit of one page does to it.
use Rattle.std.proofs.Common.{◌≡◌, ◌≢◌, ℕ, zero, suc, ◌+◌, ◌-◌, ◌<◌, ◌≤◌, Bool, true, false, cond, List, [], ◌∷◌, ◌++◌, map, length, replicate, get_or, set, Some, None, Option, refl, sym, ap, ◌∙◌, arith, subst, inl, inr}
use Rattle.std.specs.Prelude.{◌==◌, sum}
use Rattle.std.specs.List.{flat_map}
use Rattle.std.specs.Ordering.{eq_by_cmp}
use Rattle.std.specs.Cmp.Lexicographic.{nat_list_cmp_total}
use Rattle.std.specs.FinMap.{find, empty, entries, insert, remove, get, get-empty, get-entries, get-insert, get-remove, get-from_entries}
use Rattle.std.proofs.lemmas.Bool.Decides.{nat_tests}
use Rattle.std.proofs.lemmas.List.{get_or-set_same, get_or-set_other, length-set, length-map, length-replicate}
use Rattle.std.proofs.lemmas.Map.Entries.{option_filter}
use Rattle.std.proofs.Math.Nat.{mod-lt, eq-or-lt_of_le}
use Rattle.items.specs.declared.item.Item.{Item}
use Rattle.items.specs.Map.{Items, by_bytes, alive, is_alive}
use Rattle.items.proofs.AliveLemmas.{get-alive}
use Rattle.pages.specs.Page.{page_number, page_count}
use Rattle.pages.specs.Joined.{IsOwn, AreOwn, ArePages, joined_pages}
use Rattle.pages.proofs.KeyLemmas.{same_key, other_key, all_keys}

-- the first value, or else the second
abbrev pub or_else : Option Item → Option Item → Option Item
or_else None other = other
or_else (Some x) other = Some x

or_else-none : (x : Option Item) → or_else x None ≡ x
or_else-none None = refl
or_else-none (Some x) = refl

find-both : (q : List ℕ) (xs ys : List (List ℕ × Item)) → find by_bytes q (xs ++ ys) ≡ or_else (find by_bytes q xs) (find by_bytes q ys)
find-both q [] ys = refl
find-both q (x ∷ xs) ys = elim (eq_by_cmp by_bytes q x.0) as (λ b. cond b (Some x.1) (find by_bytes q (xs ++ ys)) ≡ or_else (cond b (Some x.1) (find by_bytes q xs)) (find by_bytes q ys)) [
  | true ↦ refl
  | false ↦ find-both q xs ys
]

-- a first page, and the others
get-joined : (m : Items) (pages : List Items) (q : List ℕ) → get (joined_pages (m ∷ pages)) q ≡ or_else (get m q) (get (joined_pages pages) q)
get-joined m pages q = get-from_entries nat_list_cmp_total (entries m ++ flat_map entries pages) q
    ∙ find-both q (entries m) (flat_map entries pages)
    ∙ (λ i. or_else (sym (get-entries m q) i) (sym (get-from_entries nat_list_cmp_total (flat_map entries pages) q) i))

-- no page before its own has the key
below : (p : ℕ) (pages : List Items) (q : List ℕ) → AreOwn p pages → page_number q < p → get (joined_pages pages) q ≡ None
below p [] q own l = get-empty by_bytes q
below p (m ∷ pages) q own l =
    get-joined m pages q ∙ (λ i. or_else (own.0 q (omega arith) i) (below (p + 1) pages q own.1 (omega arith) i))

from_page : (p : ℕ) (pages : List Items) (q : List ℕ) → AreOwn p pages → p ≤ page_number q → get (joined_pages pages) q ≡ get (get_or pages (page_number q - p) empty) q
from_page p [] q own l = refl
from_page p (m ∷ pages) q own l = elim (eq-or-lt_of_le l) [
  | inl e ↦
      let here : 0 ≡ page_number q - p = omega arith in
      get-joined m pages q ∙ ap (or_else (get m q)) (below (p + 1) pages q own.1 (omega arith)) ∙ or_else-none (get m q)
      ∙ ap (λ k. get (get_or (m ∷ pages) k empty) q) here
  | inr h ↦
      let other : page_number q ≢ p = λ e. omega arith in
      let later : suc (page_number q - (p + 1)) ≡ page_number q - p = omega arith in
      get-joined m pages q ∙ (λ i. or_else (own.0 q other i) (from_page (p + 1) pages q own.1 (omega arith) i))
      ∙ ap (λ k. get (get_or (m ∷ pages) k empty) q) later
]

-- a key is in the page of its number alone
pub joined_at : (pages : List Items) (q : List ℕ) → ArePages pages → get (joined_pages pages) q ≡ get (get_or pages (page_number q) empty) q
joined_at pages q a =
    let same : page_number q - 0 ≡ page_number q = omega arith in
    from_page 0 pages q a.1 (omega arith) ∙ ap (λ k. get (get_or pages k empty) q) same

pub own-empty : (p : ℕ) → IsOwn p empty
own-empty p q apart = get-empty by_bytes q

pub own-insert : (p : ℕ) (m : Items) (k : List ℕ) (v : Item) → IsOwn p m → page_number k ≡ p → IsOwn p (insert m k v)
own-insert p m k v own at q apart =
    get-insert nat_list_cmp_total m k v q
    ∙ ap (λ b. cond b (Some v) (get m q)) (other_key q k (λ e. apart (e ∙ at))) ∙ own q apart

pub own-remove : (p : ℕ) (m : Items) (k : List ℕ) → IsOwn p m → IsOwn p (remove m k)
own-remove p m k own q apart = get-remove nat_list_cmp_total m k q ∙ none_both (eq_by_cmp by_bytes q k) ∙ refl
  where
    none_both : (b : Bool) → cond b None (get m q) ≡ None
    none_both true = refl
    none_both false = own q apart

pub own-alive : (p : ℕ) (m : Items) (moment : ℕ) → IsOwn p m → IsOwn p (alive m moment)
own-alive p m moment own q apart = get-alive m moment q ∙ ap (option_filter (is_alive moment)) (own q apart)

are_set : (p : ℕ) (pages : List Items) (i : ℕ) (m : Items) → AreOwn p pages → IsOwn (p + i) m → AreOwn p (set pages i m)
are_set p [] i m own mine = tt
are_set p (n ∷ pages) zero m own mine =
    let same : p + 0 ≡ p = omega arith in
    (subst (λ k. IsOwn k m) same mine, own.1)
are_set p (n ∷ pages) (suc i) m own mine =
    let same : p + suc i ≡ p + 1 + i = omega arith in
    (own.0, are_set (p + 1) pages i m own.1 (subst (λ k. IsOwn k m) same mine))

-- page i in the place of the one that stood there
pub pages-set : (pages : List Items) (i : ℕ) (m : Items) → ArePages pages → IsOwn i m → ArePages (set pages i m)
pages-set pages i m a own =
    let same : i ≡ 0 + i = omega arith in
    (length-set pages i m ∙ a.0, are_set 0 pages i m a.1 (subst (λ k. IsOwn k m) same own))

own_at : (p : ℕ) (pages : List Items) (i : ℕ) → AreOwn p pages → IsOwn (p + i) (get_or pages i empty)
own_at p [] i own = own-empty (p + i)
own_at p (m ∷ pages) zero own =
    let same : p ≡ p + 0 = omega arith in
    subst (λ k. IsOwn k m) same own.0
own_at p (m ∷ pages) (suc i) own =
    let same : p + 1 + i ≡ p + suc i = omega arith in
    subst (λ k. IsOwn k (get_or pages i empty)) same (own_at (p + 1) pages i own.1)

pub own-page : (pages : List Items) (i : ℕ) → ArePages pages → IsOwn i (get_or pages i empty)
own-page pages i a =
    let same : 0 + i ≡ i = omega arith in
    subst (λ k. IsOwn k (get_or pages i empty)) same (own_at 0 pages i a.1)

pub page_number-lt : (q : List ℕ) → page_number q < page_count
page_number-lt q = mod-lt (sum q) (omega arith)

-- what is at a key of pages of which one was changed
at_set : (pages : List Items) (i : ℕ) (m : Items) (q : List ℕ) → ArePages pages → IsOwn i m → i < page_count
    → get (joined_pages (set pages i m)) q ≡ cond (page_number q == i) (get m q) (get (joined_pages pages) q)
at_set pages i m q a own l = joined_at (set pages i m) q (pages-set pages i m a own) ∙ by (page_number q == i) refl
  where
    by : (b : Bool) → (page_number q == i) ≡ b → get (get_or (set pages i m) (page_number q) empty) q ≡ cond b (get m q) (get (joined_pages pages) q)
    by true e =
        let here : page_number q ≡ i = grind (arith, nat_tests) in
        let within : i < length pages = rw a.0 l in
        ap (λ k. get (get_or (set pages i m) k empty) q) here ∙ ap (λ x. get x q) (get_or-set_same pages i m empty within)
    by false e =
        let other : page_number q ≢ i = grind (arith, nat_tests) in
        ap (λ x. get x q) (get_or-set_other pages i (page_number q) m empty other) ∙ sym (joined_at pages q a)

pub same_number : (n : ℕ) → (n == n) ≡ true
same_number n = grind (arith, nat_tests)

module _ (pages : List Items) (a : ArePages pages) (k : List ℕ) where
  -- the page of the key
  abbrev pub page_of : Items
  page_of = get_or pages (page_number k) empty

  -- an edit of one key in its page is the edit of the whole
  edited : (m all : Items) (w : Option Item) → IsOwn (page_number k) m
      → ((q : List ℕ) → get m q ≡ cond (eq_by_cmp by_bytes q k) w (get page_of q))
      → ((q : List ℕ) → get all q ≡ cond (eq_by_cmp by_bytes q k) w (get (joined_pages pages) q))
      → joined_pages (set pages (page_number k) m) ≡ all
  edited m all w own part whole = all_keys _ _ (λ q. at_set pages (page_number k) m q a own (page_number-lt k) ∙ at q ∙ sym (whole q))
    where
      at : (q : List ℕ) → cond (page_number q == page_number k) (get m q) (get (joined_pages pages) q) ≡ cond (eq_by_cmp by_bytes q k) w (get (joined_pages pages) q)
      at q = by (eq_by_cmp by_bytes q k) refl
        where
          by : (b : Bool) → eq_by_cmp by_bytes q k ≡ b → cond (page_number q == page_number k) (get m q) (get (joined_pages pages) q) ≡ cond b w (get (joined_pages pages) q)
          by true e =
              let here : (page_number q == page_number k) ≡ true = ap (λ x. page_number x == page_number k) (same_key q k e) ∙ same_number (page_number k) in
              rw here (part q ∙ ap (λ b. cond b w (get page_of q)) e)
          by false e = elsewhere (page_number q == page_number k) refl
            where
              elsewhere : (c : Bool) → (page_number q == page_number k) ≡ c → cond c (get m q) (get (joined_pages pages) q) ≡ get (joined_pages pages) q
              elsewhere true is =
                  let here : page_number k ≡ page_number q = grind (arith, nat_tests) in
                  part q ∙ ap (λ b. cond b w (get page_of q)) e ∙ ap (λ n. get (get_or pages n empty) q) here ∙ sym (joined_at pages q a)
              elsewhere false is = refl

  pub joined-insert : (v : Item) → ArePages (set pages (page_number k) (insert page_of k v)) × (joined_pages (set pages (page_number k) (insert page_of k v)) ≡ insert (joined_pages pages) k v)
  joined-insert v =
      let own = own-insert (page_number k) page_of k v (own-page pages (page_number k) a) refl in (
        pages-set pages (page_number k) (insert page_of k v) a own,
        edited (insert page_of k v) (insert (joined_pages pages) k v) (Some v) own (get-insert nat_list_cmp_total page_of k v) (get-insert nat_list_cmp_total (joined_pages pages) k v),
      )

  pub joined-remove : ArePages (set pages (page_number k) (remove page_of k)) × (joined_pages (set pages (page_number k) (remove page_of k)) ≡ remove (joined_pages pages) k)
  joined-remove =
      let own = own-remove (page_number k) page_of k (own-page pages (page_number k) a) in (
        pages-set pages (page_number k) (remove page_of k) a own,
        edited (remove page_of k) (remove (joined_pages pages) k) None own (get-remove nat_list_cmp_total page_of k) (get-remove nat_list_cmp_total (joined_pages pages) k),
      )

are_alive : (p : ℕ) (pages : List Items) (moment : ℕ) → AreOwn p pages → AreOwn p (map (λ m. alive m moment) pages)
are_alive p [] moment own = tt
are_alive p (m ∷ pages) moment own = (own-alive p m moment own.0, are_alive (p + 1) pages moment own.1)

alive_empty : (moment : ℕ) → alive empty moment ≡ empty
alive_empty moment = all_keys _ _ (λ q. get-alive empty moment q ∙ ap (option_filter (is_alive moment)) (get-empty by_bytes q) ∙ sym (get-empty by_bytes q))

alive_at : (pages : List Items) (moment i : ℕ) → get_or (map (λ m. alive m moment) pages) i empty ≡ alive (get_or pages i empty) moment
alive_at [] moment i = sym (alive_empty moment)
alive_at (m ∷ pages) moment zero = refl
alive_at (m ∷ pages) moment (suc i) = alive_at pages moment i

-- what is due is dropped from each page
pub joined-alive : (pages : List Items) (moment : ℕ) → ArePages pages → ArePages (map (λ m. alive m moment) pages) × (joined_pages (map (λ m. alive m moment) pages) ≡ alive (joined_pages pages) moment)
joined-alive pages moment a =
    let still : ArePages (map (λ m. alive m moment) pages) = (length-map pages (λ m. alive m moment) ∙ a.0, are_alive 0 pages moment a.1) in (
      still,
      all_keys _ _ (λ q. joined_at (map (λ m. alive m moment) pages) q still ∙ ap (λ m. get m q) (alive_at pages moment (page_number q))
          ∙ get-alive (get_or pages (page_number q) empty) moment q ∙ ap (option_filter (is_alive moment)) (sym (joined_at pages q a)) ∙ sym (get-alive (joined_pages pages) moment q)),
    )

abbrev pub no_items : Items
no_items = empty

are_empty : (p n : ℕ) → AreOwn p (replicate n no_items)
are_empty p zero = tt
are_empty p (suc n) = (own-empty p, are_empty (p + 1) n)

-- pages with nothing in them
pub joined-empty : ArePages (replicate page_count no_items) × (joined_pages (replicate page_count no_items) ≡ empty)
joined-empty =
    let are : ArePages (replicate page_count no_items) = (length-replicate page_count no_items, are_empty 0 page_count) in
    (are, all_keys (joined_pages (replicate page_count no_items)) empty (λ q. joined_at (replicate page_count no_items) q are ∙ ap (λ (m : Items). get m q) (at page_count (page_number q))))
  where
    at : (n i : ℕ) → get_or (replicate n no_items) i no_items ≡ no_items
    at zero i = refl
    at (suc n) zero = refl
    at (suc n) (suc i) = at n i
