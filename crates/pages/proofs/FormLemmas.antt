-- The entries of so many pages tell the items, and what the items of a form keep.
use Rattle.std.proofs.Common.{◌≡◌, ℕ, zero, suc, ◌+◌, ◌^◌, ◌<◌, ◌≤◌, Bool, true, false, cond, List, [], None, length, get_or, refl, sym, ap, ◌∙◌, subst, inl, inr, arith}
use Rattle.std.specs.Prelude.{◌==◌, ◌&&◌, ◌↔◌, nat_lt, nat_le, sum, IsTrue}
use Rattle.std.specs.Ordering.{is_eq}
use Rattle.std.specs.FinMap.{find, entries, get, get-entries}
use Rattle.std.specs.FinMap.Entries.{find-where_key}
use Rattle.std.specs.List.{list_all, range_with_len}
use Rattle.std.proofs.Math.Nat.{mod-lt, eq-or-lt_of_le}
use Rattle.std.proofs.lemmas.Bool.{and_parts, and_from}
use Rattle.std.proofs.lemmas.Bool.Decides.{nat_tests}
use Rattle.std.proofs.lemmas.List.FromFn.{get_or-map-range_with_len}
use Rattle.items.specs.declared.item.Item.{Item}
use Rattle.items.specs.Map.{Items, by_bytes}
use Rattle.wire.specs.Item.{page_text}
use Rattle.token.specs.declared.form.Form.TheVariants.{Old, Current}
use Rattle.token.specs.declared.tree.TheConstants.{HEIGHT}
use Rattle.token.specs.Digest.{digest, root_of}
use Rattle.token.specs.declared.form.TheConstants.{OLD_BLOCK_BYTES}
use Rattle.token.specs.Form.{pages_of}
use Rattle.pages.specs.Page.{number_among, entries_among, each_among, of_each}
use Rattle.pages.specs.Form.{HasTexts, DataWithin, fits_form, FitForm, root_in, root_by}
use Rattle.pages.specs.declared.layout.Layout.TheVariants.{Sorted}
use Rattle.pages.proofs.OldLemmas.{within-from_test, test-from_within}
use Rattle.pages.proofs.KeyLemmas.{same_key, all_keys}
use Rattle.pages.proofs.JoinedLemmas.{same_number}
use Rattle.pages.proofs.PartLemmas.{entries-page_items}

-- what is at a key is what is there on its page
pub get_among : (count : ℕ) (m : Items) (q : List ℕ) → get m q ≡ find by_bytes q (entries_among count m (number_among count q))
get_among count m q =
    get-entries m q
    ∙ ap (λ b. cond b (find by_bytes q (entries m)) None) (sym (same_number (number_among count q)))
    ∙ sym (find-where_key by_bytes (λ x. number_among count x == number_among count q) q
    (λ x t. ap (λ y. number_among count y == number_among count q) (sym (same_key q x (ap is_eq t)))) (entries m))

pub same_among : (count : ℕ) → 0 < count → (m n : Items) → each_among count (entries_among count m) ≡ each_among count (entries_among count n) → m ≡ n
same_among count some m n e = all_keys m n (λ q.
    let p = number_among count q in
    let within : p < count = mod-lt (sum q) some in
    let there : entries_among count m p ≡ entries_among count n p =
    sym (get_or-map-range_with_len (entries_among count m) 0 count p p [] within (omega arith))
    ∙ ap (λ pages. get_or pages p []) e ∙ get_or-map-range_with_len (entries_among count n) 0 count p p [] within (omega arith) in
    get_among count m q ∙ ap (find by_bytes q) there ∙ sym (get_among count n q))

below_all : (f : ℕ → Bool) (a n : ℕ) → list_all f (range_with_len a n) ≡ true → (p : ℕ) → a ≤ p → p < a + n → f p ≡ true
below_all f a zero all p low high = absurd (omega (arith, low, high))
below_all f a (suc n) all p low high =
    let both = and_parts (f a) (list_all f (range_with_len (a + 1) n)) all in
    elim (eq-or-lt_of_le low) [
      | inl e ↦ subst (λ (k : ℕ). f k ≡ true) e both.0
      | inr l ↦ below_all f (a + 1) n both.1 p (omega (arith, l)) (omega (arith, high))
    ]

all_below : (f : ℕ → Bool) (a n : ℕ) → ((p : ℕ) → a ≤ p → p < a + n → f p ≡ true) → list_all f (range_with_len a n) ≡ true
all_below f a zero each = refl
all_below f a (suc n) each =
    and_from _ _ (each a (omega arith) (omega arith)) (all_below f (a + 1) n (λ p low high. each p (omega (arith, low)) (omega (arith, high))))

-- whether old page p has a text
abbrev has_text : Items → ℕ → Bool
has_text m p = nat_lt (length (entries_among (pages_of Old) m p)) (2 ^ 32)

abbrev is_short : List ℕ × Item → Bool
is_short e = nat_le (length e.1.block) OLD_BLOCK_BYTES

-- in the old form each page has a text
pub old_texts : (m : Items) → FitForm Old m → HasTexts Old m
old_texts m fit p low =
    let one = below_all (has_text m) 0 (pages_of Old) (and_parts (list_all (has_text m) (range_with_len 0 (pages_of Old))) (list_all is_short (entries m)) fit).0 p (omega arith) low in
    grind (arith, nat_tests, one)

-- what tests both tests the form
pub tests_old : (m : Items) (texts blocks : Bool) → IsTrue texts ↔ HasTexts Old m → IsTrue blocks ↔ DataWithin OLD_BLOCK_BYTES m → (texts && blocks) ≡ fits_form Old m
tests_old m texts blocks has short = λ i. first i && second i
  where
    -- tests that hold together are one
    alike : (a b : Bool) → (a ≡ true → b ≡ true) → (b ≡ true → a ≡ true) → a ≡ b
    alike true b there back = sym (there refl)
    alike false true there back = back refl
    alike false false there back = refl

    first : texts ≡ list_all (has_text m) (range_with_len 0 (pages_of Old))
    first = alike texts (list_all (has_text m) (range_with_len 0 (pages_of Old)))
        (λ is. all_below (has_text m) 0 (pages_of Old) (λ p low high. (let few = has.0 is p high in grind (arith, nat_tests, few))))
        (λ all. has.1 (λ p high. (let one = below_all (has_text m) 0 (pages_of Old) all p (omega arith) high in grind (arith, nat_tests, one))))

    second : blocks ≡ list_all is_short (entries m)
    second = alike blocks (list_all is_short (entries m)) (λ is. test-from_within OLD_BLOCK_BYTES (entries m) (short.0 is)) (λ all. short.1 (within-from_test OLD_BLOCK_BYTES (entries m) all))

-- the root over sorted pages is that of a state of today's form
pub root_sorted : (m : Items) → root_in Sorted m ≡ root_by Current m
root_sorted m = λ i. root_of HEIGHT (of_each (λ p. digest (page_text (entries-page_items m p i))))
