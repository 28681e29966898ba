-- How many items are in the pages of which something is due.
use Rattle.std.proofs.Common.{◌≡◌, ◌≢◌, ℕ, suc, ◌+◌, ◌<◌, ◌≤◌, ◌⊎◌, inl, inr, ⊎_elim, Bool, true, false, cond, List, [], ◌∷◌, map, length, refl, ap, ◌∙◌, arith}
use Rattle.std.specs.Prelude.{filter}
use Rattle.std.specs.FinMap.{entries, from_sorted}
use Rattle.std.proofs.lemmas.Bool.Decides.{nat_tests}
use Rattle.items.specs.Map.{Items, is_alive, alive}
use Rattle.pages.specs.Page.{item_count, is_due, beside_due}
use Rattle.pages.proofs.PageLemmas.{length_filter, same_map_of, entries-alive}
use Rattle.pages.proofs.CountLemmas.{count-more}

fewer_or_same : {X : Type 0} (p : X → Bool) (xs : List X) → (length (filter p xs) < length xs) ⊎ (filter p xs ≡ xs)
fewer_or_same p [] = inr refl
fewer_or_same {X} p (x ∷ xs) = by (p x) (fewer_or_same p xs)
  where
    by : (b : Bool) → (length (filter p xs) < length xs) ⊎ (filter p xs ≡ xs) → (length (cond b (x ∷ filter p xs) (filter p xs)) < suc (length xs)) ⊎ (cond b (x ∷ filter p xs) (filter p xs) ≡ x ∷ xs)
    by true rest = ⊎_elim (λ less. inl (omega (arith, less))) (λ same. inr (ap (λ l. x ∷ l) same)) rest
    by false rest = inl (omega (arith, length_filter p xs))

-- if dropping changes a page, the page has fewer items then
alive-fewer : (m : Items) (moment : ℕ) → alive m moment ≢ m → length (entries (alive m moment)) < length (entries m)
alive-fewer m moment some =
    ⊎_elim (λ less. omega (arith, less, ap length (entries-alive m moment))) (λ same. absurd (some (ap from_sorted same ∙ same_map_of m)))
    (fewer_or_same (λ e. is_alive moment e.1) (entries m))

module _ (moment : ℕ) (m : Items) (pages : List Items) where
  beside-by : (b : Bool) → is_due moment m ≡ b → beside_due moment (m ∷ pages) ≡ item_count (cond b (m ∷ filter (is_due moment) pages) (filter (is_due moment) pages))
  beside-by b is = ap (λ b. item_count (cond b (m ∷ filter (is_due moment) pages) (filter (is_due moment) pages))) is

  -- all items of a page of which something is due
  pub beside-some : alive m moment ≢ m → beside_due moment (m ∷ pages) ≡ length (entries m) + beside_due moment pages
  beside-some some =
      let less = alive-fewer m moment some in
      let yes : is_due moment m ≡ true = grind (arith, nat_tests) in
      beside-by true yes ∙ count-more m (filter (is_due moment) pages)

-- what is dropped is in those pages
pub dropped-beside : (moment : ℕ) (pages : List Items) → item_count pages ≤ item_count (map (λ page. alive page moment) pages) + beside_due moment pages
dropped-beside moment [] = omega arith
dropped-beside moment (m ∷ pages) = by (is_due moment m) refl (dropped-beside moment pages)
  where
    by : (b : Bool) → is_due moment m ≡ b → item_count pages ≤ item_count (map (λ page. alive page moment) pages) + beside_due moment pages
        → item_count (m ∷ pages) ≤ item_count (map (λ page. alive page moment) (m ∷ pages)) + beside_due moment (m ∷ pages)
    by true is rest =
        omega (
          arith,
          count-more m pages,
          count-more (alive m moment) (map (λ page. alive page moment) pages),
          rest,
          beside-by moment m pages true is ∙ count-more m (filter (is_due moment) pages),
        )
    by false is rest =
        let kept : length (entries m) ≤ length (entries (alive m moment)) = grind (arith, nat_tests) in
        omega (arith, kept, count-more m pages, count-more (alive m moment) (map (λ page. alive page moment) pages), rest, beside-by moment m pages false is)
