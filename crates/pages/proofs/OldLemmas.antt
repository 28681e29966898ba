-- The pages of the old form and those of today.
use Rattle.std.proofs.Common.{◌≡◌, ◌≢◌, ℕ, zero, suc, ◌+◌, ◌*◌, ◌/◌, ◌<◌, ◌≤◌, Bool, true, false, cond, List, [], ◌∷◌, length, refl, sym, ap, ◌∙◌, arith}
use Rattle.std.specs.Prelude.{◌==◌, ◌%◌, filter, sum, nat_le, All}
use Rattle.std.specs.List.{list_all}
use Rattle.std.specs.FinMap.{entries, entries_sorted}
use Rattle.std.proofs.lemmas.Bool.{and_parts, and_from}
use Rattle.std.proofs.lemmas.Bool.Decides.{nat_tests}
use Rattle.base.proofs.MapLemmas.{from_t, sorted_filter}
use Rattle.items.specs.declared.item.Item.{Item}
use Rattle.items.specs.Map.{Items, by_bytes}
use Rattle.token.specs.declared.tree.TheConstants.{OLD_PAGES}
use Rattle.token.specs.Merged.{AreParts, of_class, part_at}
use Rattle.pages.specs.Page.{number_among, page_number, page_count, page_entries}
use Rattle.pages.specs.Old.{old_entries, part_of_old}
use Rattle.pages.proofs.JoinedLemmas.{page_number-lt}

-- a filter of a filter, if the two together are one test
filter_both : {X : Type 0} (a b c : X → Bool) → ((x : X) → b x ≡ true → a x ≡ c x) → ((x : X) → b x ≡ false → c x ≡ false) → (xs : List X) → filter a (filter b xs) ≡ filter c xs
filter_both a b c in_b out_b [] = refl
filter_both {X} a b c in_b out_b (x ∷ xs) = by (b x) refl (filter_both a b c in_b out_b xs)
  where
    by : (t : Bool) → b x ≡ t → filter a (filter b xs) ≡ filter c xs → filter a (cond (b x) (x ∷ filter b xs) (filter b xs)) ≡ cond (c x) (x ∷ filter c xs) (filter c xs)
    by true e rest = ap (λ t. filter a (cond t (x ∷ filter b xs) (filter b xs))) e ∙ (λ i. cond (in_b x e i) (x ∷ rest i) (rest i))
    by false e rest = ap (λ t. filter a (cond t (x ∷ filter b xs) (filter b xs))) e ∙ rest ∙ ap (λ t. cond t (x ∷ filter c xs) (filter c xs)) (sym (out_b x e))

is_true : (a b : ℕ) → a ≡ b → (a == b) ≡ true
is_true a b e = grind (arith, nat_tests)

is_false : (a b : ℕ) → a ≢ b → (a == b) ≡ false
is_false a b e = grind (arith, nat_tests)

are_one : (a b : ℕ) → (a == b) ≡ true → a ≡ b
are_one a b e = grind (arith, nat_tests)

are_two : (a b : ℕ) → (a == b) ≡ false → a ≢ b
are_two a b e = grind (arith, nat_tests)

-- of numbers: which of the four pages it is, and which old page
pub of_sum : (s p i : ℕ) → p < 64 → s % 64 ≡ p → s % 256 / 64 ≡ i → s % 256 ≡ p + i * 64
of_sum s p i few old part = omega arith

part_of_sum : (s p i : ℕ) → p < 64 → s % 256 ≡ p + i * 64 → s % 256 / 64 ≡ i
part_of_sum s p i few is = omega arith

old_of_sum : (s p i : ℕ) → p < 64 → i < 4 → s % 256 ≡ p + i * 64 → s % 64 ≡ p
old_of_sum s p i few small is = omega arith

-- which old page a page is a part of
pub old-number : (key : List ℕ) → number_among page_count key % OLD_PAGES ≡ number_among OLD_PAGES key
old-number key = of_it (sum key)
  where
    of_it : (s : ℕ) → s % 256 % 64 ≡ s % 64
    of_it s = omega arith

pub part-small : (key : List ℕ) → part_of_old key < 4
part-small key = of_it (sum key)
  where
    of_it : (s : ℕ) → s % 256 / 64 < 4
    of_it s = omega arith

module _ (p i : ℕ) (few : p < OLD_PAGES) (small : i < 4) where
  in_old : (key : List ℕ) → (number_among OLD_PAGES key == p) ≡ true → (part_of_old key == i) ≡ (number_among page_count key == p + i * OLD_PAGES)
  in_old key is = by (part_of_old key == i) refl
    where
      by : (b : Bool) → (part_of_old key == i) ≡ b → b ≡ (number_among page_count key == p + i * OLD_PAGES)
      by true e = sym (is_true _ _ (of_sum (sum key) p i few (are_one _ _ is) (are_one _ _ e)))
      by false e = sym (is_false _ _ (λ same. are_two _ _ e (part_of_sum (sum key) p i few same)))

  out_old : (key : List ℕ) → (number_among OLD_PAGES key == p) ≡ false → (number_among page_count key == p + i * OLD_PAGES) ≡ false
  out_old key is = is_false _ _ (λ same. are_two _ _ is (old_of_sum (sum key) p i few small same))

  -- part i of an old page is one of today's pages
  pub part-of : (m : Items) → of_class part_of_old i (old_entries m p) ≡ page_entries m (p + i * OLD_PAGES)
  part-of m = filter_both (λ e. part_of_old e.0 == i) (λ e. number_among OLD_PAGES e.0 == p) (λ e. page_number e.0 == p + i * OLD_PAGES) (λ e. in_old e.0) (λ e. out_old e.0) (entries m)

pub old-parts : (m : Items) (p : ℕ) (a b c d : List (List ℕ × Item)) → p < OLD_PAGES
    → a ≡ page_entries m p → b ≡ page_entries m (p + OLD_PAGES) → c ≡ page_entries m (p + 2 * OLD_PAGES) → d ≡ page_entries m (p + 3 * OLD_PAGES)
    → AreParts part_of_old (old_entries m p) (a ∷ b ∷ c ∷ d ∷ [])
old-parts m p a b c d few first second third fourth = record {
  rising = sorted_filter by_bytes (λ e. number_among OLD_PAGES e.0 == p) (entries m) (from_t _ (entries_sorted m));
  four = refl;
  classes = part-small;
  parted = at;
}
  where
    here : (i n : ℕ) → i < 4 → n ≡ p + i * OLD_PAGES → page_entries m n ≡ of_class part_of_old i (old_entries m p)
    here i n l e = ap (page_entries m) e ∙ sym (part-of p i few l m)

    at : (i : ℕ) → i < 4 → part_at (a ∷ b ∷ c ∷ d ∷ []) i ≡ of_class part_of_old i (old_entries m p)
    at zero l = first ∙ here 0 p l (omega arith)
    at (suc zero) l = second ∙ here 1 (p + OLD_PAGES) l (omega arith)
    at (suc (suc zero)) l = third ∙ here 2 (p + 2 * OLD_PAGES) l (omega arith)
    at (suc (suc (suc zero))) l = fourth ∙ here 3 (p + 3 * OLD_PAGES) l (omega arith)
    at (suc (suc (suc (suc i)))) l = absurd (omega arith)

module _ (t : List ℕ × Item → Bool) where
  -- what holds in each page holds of all entries
  pub all-from_pages : (es : List (List ℕ × Item)) → ((p : ℕ) → p < page_count → list_all t (filter (λ e. page_number e.0 == p) es) ≡ true) → list_all t es ≡ true
  all-from_pages [] each = refl
  all-from_pages (e ∷ es) each = and_from _ _ here (all-from_pages es (λ p l. later p (page_number e.0 == p) (each p l)))
    where
      here : t e ≡ true
      here =
          let own = filter (λ x. page_number x.0 == page_number e.0) es in
          (and_parts (t e) (list_all t (filter (λ x. page_number x.0 == page_number e.0) es))
          (ap (λ b. list_all t (cond b (e ∷ filter (λ x. page_number x.0 == page_number e.0) es) (filter (λ x. page_number x.0 == page_number e.0) es))) (sym (is_true (page_number e.0) (page_number e.0) refl))
          ∙ each (page_number e.0) (page_number-lt e.0))).0

      later : (p : ℕ) (b : Bool) → list_all t (cond b (e ∷ filter (λ x. page_number x.0 == p) es) (filter (λ x. page_number x.0 == p) es)) ≡ true → list_all t (filter (λ x. page_number x.0 == p) es) ≡ true
      later p true all = (and_parts _ _ all).1
      later p false all = all

  -- and what holds of all holds in a part
  pub all-in_part : (q : List ℕ × Item → Bool) (es : List (List ℕ × Item)) → list_all t es ≡ true → list_all t (filter q es) ≡ true
  all-in_part q [] all = refl
  all-in_part q (e ∷ es) all = elim (q e) as (λ b. list_all t (cond b (e ∷ filter q es) (filter q es)) ≡ true) [
    | true ↦ and_from _ _ (and_parts _ _ all).0 (all-in_part q es (and_parts _ _ all).1)
    | false ↦ all-in_part q es (and_parts _ _ all).1
  ]

-- the data of each item is short enough
abbrev short : ℕ → List ℕ × Item → Bool
short most e = nat_le (length e.1.block) most

pub within-from_test : (most : ℕ) (es : List (List ℕ × Item)) → list_all (short most) es ≡ true → All (λ e. length e.1.block ≤ most) es
within-from_test most [] all k d l = absurd (omega arith)
within-from_test most (e ∷ es) all zero d l = is_within (length e.1.block) most (and_parts _ _ all).0
  where
    is_within : (a b : ℕ) → nat_le a b ≡ true → a ≤ b
    is_within a b e = grind (arith, nat_tests)
within-from_test most (e ∷ es) all (suc k) d l = within-from_test most es (and_parts _ _ all).1 k d (omega arith)

pub test-from_within : (most : ℕ) (es : List (List ℕ × Item)) → All (λ e. length e.1.block ≤ most) es → list_all (short most) es ≡ true
test-from_within most [] within = refl
test-from_within most (e ∷ es) within = and_from _ _ (passes (length e.1.block) most (within 0 e (omega arith))) (test-from_within most es (λ k d l. within (suc k) d (omega arith)))
  where
    passes : (a b : ℕ) → a ≤ b → nat_le a b ≡ true
    passes a b l = grind (arith, nat_tests)
