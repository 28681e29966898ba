-- What is noted of each page makes the rows of all.
use Rattle.std.proofs.Common.{◌≡◌, ◌≢◌, ℕ, ◌+◌, ◌/◌, ◌<◌, ◌≤◌, true, false, List, [], ◌++◌, Option, None, Some, refl, sym, ap, ◌∙◌, subst, arith}
use Rattle.std.specs.Prelude.{◌==◌, ◌^◌, map}
use Rattle.std.proofs.lemmas.List.{map-append}
use Rattle.std.proofs.lemmas.Bool.Decides.{nat_tests}
use Rattle.sqlite_value.specs.Order.{Row}
use Rattle.merkle.specs.Digest.{on_side}
use Rattle.item_tree.specs.Text.{path_entries}
use Rattle.pages.specs.Page.{Laid, page_items, page_count}
use Rattle.item_rows.specs.Row.{row_number_of}
use Rattle.item_rows.specs.RowItems.{RowItems, row_of_items}
use Rattle.item_rows.specs.Changes.{or_first, last_change}
use Rattle.item_rows.specs.Rising.{AreRising}
use Rattle.pages.specs.Differing.{ArePageDifferences}
use Rattle.item_rows.specs.Changed.{in_row, items_in_row, rows_of, change_of, row_told, IsNotedAt, AreNoted, AreSnapshotsTold, IsPageNoted, LeadTo}
use Rattle.item_rows.proofs.ChangeLemmas.{or_row, says, last_change-append}
use Rattle.item_rows.proofs.NotedLemmas.{Entries, eq_true, unnoted, first_of_one}
use Rattle.item_rows.proofs.RowNumberLemmas.{of_page, row_numbers_rise, none_of_page, none_left, noted_all}

-- what is noted of the differences of a page is noted of the page
pub page_noted : (n : ℕ) (old new : Laid) (before now : Entries) (cs : List RowItems) → ArePageDifferences 55 old.layout (page_items old.items n) new.layout (page_items new.items n) before now
    → (AreRising row_number_of before → AreRising row_number_of now → AreNoted before now cs) → IsPageNoted n old new cs
page_noted n old new before now cs x h =
    let olds : Entries = path_entries (page_items old.items n) in
    let news : Entries = path_entries (page_items new.items n) in
    let first : AreRising row_number_of before = subst (AreRising row_number_of) (sym x.before_is) (row_numbers_rise n old.items x.shown) in
    let second : AreRising row_number_of now = subst (AreRising row_number_of) (sym x.now_is) (row_numbers_rise n new.items x.shown) in
    let noted : AreNoted (on_side x.shown olds) (on_side x.shown news) cs = subst (λ (a : Entries). AreNoted a (on_side x.shown news) cs) x.before_is (subst (λ (b : Entries). AreNoted before b cs) x.now_is (h first second)) in
    record {
      noted = λ tells p e. subst (λ (m : ℕ). IsNotedAt p (in_row p (path_entries (page_items old.items m))) (in_row p (path_entries (page_items new.items m))) (row_told p cs)) (sym e)
          (noted_all olds news x.shown x.by_front cs noted (x.rest_is_same tells) p);
      others = λ p apart. unnoted p (in_row p (on_side x.shown olds)) (in_row p (on_side x.shown news)) (row_told p cs)
          (none_left p x.shown olds (none_of_page n p apart olds (of_page n old.items))) (none_left p x.shown news (none_of_page n p apart news (of_page n new.items))) (noted p);
    }

-- What is noted of the first pages, so many.
pub record ArePagesNoted (count : ℕ) (old new : Laid) (cs : List RowItems) : Type 0 where
  pub noted : AreSnapshotsTold old new → (p : ℕ) → p / 2 ^ 55 < count → IsNotedAt p (items_in_row old.items p) (items_in_row new.items p) (row_told p cs)
  pub others : (p : ℕ) → count ≤ p / 2 ^ 55 → row_told p cs ≡ None

last_both : (p : ℕ) (cs ds : List RowItems) → row_told p (cs ++ ds) ≡ or_first (row_told p ds) (row_told p cs)
last_both p cs ds = ap (last_change p) (map-append change_of cs ds) ∙ last_change-append p (map change_of cs) (map change_of ds)

not_equal : (n m : ℕ) → (n == m) ≡ false → n ≢ m
not_equal n m h = grind (arith, nat_tests)

below : (n m : ℕ) → n < m + 1 → (n == m) ≡ false → n < m
below n m h k = grind (arith, nat_tests)

pub no_pages : (old new : Laid) (cs : List RowItems) → cs ≡ [] → ArePagesNoted 0 old new cs
no_pages old new cs e = record { noted = λ tells p h. absurd (omega (arith, h)); others = λ p h. ap (row_told p) e }

pub one_page_more : (n : ℕ) (old new : Laid) (cs ds : List RowItems) → n < page_count → ArePagesNoted n old new cs → IsPageNoted n old new ds → ArePagesNoted (n + 1) old new (cs ++ ds)
one_page_more n old new cs ds within x y =
    record {
      noted = λ tells p h. elim (p / 2 ^ 55 == n) as (λ b. (p / 2 ^ 55 == n) ≡ b → IsNotedAt p (items_in_row old.items p) (items_in_row new.items p) (row_told p (cs ++ ds))) [
        | true ↦ λ is. (let e : p / 2 ^ 55 ≡ n = eq_true _ _ is in
            subst (IsNotedAt p (items_in_row old.items p) (items_in_row new.items p))
            (first_of_one (row_told p ds) ∙ sym (last_both p cs ds ∙ ap (λ o. or_first (row_told p ds) o) (x.others p (omega (arith, e)))))
            (y.noted (tells n within) p e))
        | false ↦ λ is. subst (IsNotedAt p (items_in_row old.items p) (items_in_row new.items p))
            (sym (last_both p cs ds ∙ ap (λ o. or_first o (row_told p cs)) (y.others p (not_equal _ _ is))))
            (x.noted tells p (below _ _ h is))
      ] refl;
      others = λ p h. last_both p cs ds ∙ (λ i. or_first (y.others p (λ e. omega (arith, h, e)) i) (x.others p (omega (arith, h)) i));
    }

told_row : (p : ℕ) (a b : Entries) (o : Option (Option Row)) → IsNotedAt p a b o → or_row o (row_of_items p a) ≡ row_of_items p b
told_row p a b None is = ap (row_of_items p) is
told_row p a b (Some row) is = is.0

-- the rows follow
pub all_follow : (count : ℕ) (old new : Laid) (cs : List RowItems) → page_count ≤ count → ArePagesNoted count old new cs → AreSnapshotsTold old new → LeadTo cs old.items new.items
all_follow count old new cs enough x tells p h =
    let pages : page_count ≡ 256 = refl in
    says (rows_of old.items) (map change_of cs) p ∙ told_row p (items_in_row old.items p) (items_in_row new.items p) (row_told p cs) (x.noted tells p (omega (arith, h, pages, enough)))
