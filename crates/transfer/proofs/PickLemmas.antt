-- Pages that are picked out of all, by number.
use Rattle.std.proofs.Common.{◌≡◌, ℕ, zero, suc, ◌+◌, ◌<◌, ◌≤◌, Bool, true, false, cond, List, [], ◌∷◌, ◌++◌, length, Some, None, refl, sym, ap, ◌∙◌, arith, subst, inl, inr}
use Rattle.std.specs.Prelude.{◌==◌, flat_map, All, if◌then◌else◌}
use Rattle.std.specs.List.{range_with_len}
use Rattle.std.specs.Map.{lookup}
use Rattle.std.specs.Ordering.{nat_cmp, is_lt}
use Rattle.std.specs.declared.cmp.Ordering.TheVariants.{Less}
use Rattle.std.specs.Cmp.{nat_cmp_is}
use Rattle.std.specs.FinMap.{is_sorted}
use Rattle.std.specs.FinMap.Entries.{below_all}
use Rattle.std.proofs.Math.Nat.{eq-or-lt_of_le}
use Rattle.std.proofs.lemmas.Bool.{and_from}
use Rattle.std.proofs.lemmas.Bool.Decides.{nat_tests}
use Rattle.std.proofs.lemmas.Grind.{flat_map-append}
use Rattle.std.proofs.lemmas.List.{append-nil}
use Rattle.std.proofs.lemmas.List.Elements.{All-nil, All-cons}
use Rattle.pages.specs.Page.{Laid}
use Rattle.pages.proofs.JoinedLemmas.{same_number}

range_more : (p n : ℕ) → range_with_len p (suc n) ≡ range_with_len p n ++ (p + n) ∷ []
range_more p zero =
    let here : p ≡ p + 0 = omega arith in
    ap (λ k. k ∷ []) here
range_more p (suc n) =
    let here : p + 1 + n ≡ p + suc n = omega arith in
    ap (λ (ks : List ℕ). p ∷ ks) (range_more (p + 1) n ∙ ap (λ k. range_with_len (p + 1) n ++ k ∷ []) here)

-- what the next page gives is at the end
pub flat_map_more : {X : Type 0} (f : ℕ → List X) (n : ℕ) → flat_map f (range_with_len 0 (n + 1)) ≡ flat_map f (range_with_len 0 n) ++ f n
flat_map_more f n =
    let next : n + 1 ≡ suc n = omega arith in
    let here : 0 + n ≡ n = omega arith in
    ap (λ k. flat_map f (range_with_len 0 k)) next ∙ (ap (flat_map f) (range_more 0 n) ∙ (flat_map-append f (range_with_len 0 n) ((0 + n) ∷ [])
    ∙ (ap (λ xs. flat_map f (range_with_len 0 n) ++ xs) (append-nil (f (0 + n))) ∙ ap (λ k. flat_map f (range_with_len 0 n) ++ f k) here)))

module _ (passed : ℕ → Bool) (page : ℕ → Laid) where
  -- a page, unless it is passed over
  abbrev pub pick : ℕ → List (ℕ × Laid)
  pick k = if passed k then [] else (k, page k) ∷ []

  abbrev pub picks : ℕ → ℕ → List (ℕ × Laid)
  picks p n = flat_map pick (range_with_len p n)

  -- before others, page p or none
  abbrev before : ℕ → Bool → List (ℕ × Laid) → List (ℕ × Laid)
  before p b others = (if b then [] else (p, page p) ∷ []) ++ others

  all_above : (m p : ℕ) (b : Bool) (others : List (ℕ × Laid)) → m < p → below_all nat_cmp m others ≡ true → below_all nat_cmp m (before p b others) ≡ true
  all_above m p true others l h = h
  all_above m p false others l h = and_from _ _ (ap is_lt (sym (nat_cmp_is m p Less l))) h

  above : (m p n : ℕ) → m < p → below_all nat_cmp m (picks p n) ≡ true
  above m p zero l = refl
  above m p (suc n) l = all_above m p (passed p) (picks (p + 1) n) l (above m (p + 1) n (omega (arith, l)))

  rises : (p : ℕ) (b : Bool) (others : List (ℕ × Laid)) → below_all nat_cmp p others ≡ true → is_sorted nat_cmp others ≡ true → is_sorted nat_cmp (before p b others) ≡ true
  rises p true others a h = h
  rises p false others a h = and_from _ _ a h

  pub rising : (p n : ℕ) → is_sorted nat_cmp (picks p n) ≡ true
  rising p zero = refl
  rising p (suc n) = rises p (passed p) (picks (p + 1) n) (above p (p + 1) n (omega arith)) (rising (p + 1) n)

  one_at_most : (p n : ℕ) (b : Bool) (others : List (ℕ × Laid)) → length others ≤ n → length (before p b others) ≤ suc n
  one_at_most p n true others l = omega (arith, l)
  one_at_most p n false others l = omega (arith, l)

  pub few : (p n : ℕ) → length (picks p n) ≤ n
  few p zero = omega arith
  few p (suc n) = one_at_most p n (passed p) (picks (p + 1) n) (few (p + 1) n)

  all_before : (P : ℕ × Laid → Type 0) (p : ℕ) (b : Bool) (others : List (ℕ × Laid)) → P (p, page p) → All P others → All P (before p b others)
  all_before P p true others here h = h
  all_before P p false others here h = All-cons P (p, page p) others here h

  pub each : (P : ℕ × Laid → Type 0) (p n : ℕ) → ((k : ℕ) → p ≤ k → k < p + n → P (k, page k)) → All P (picks p n)
  each P p zero all = All-nil P
  each P p (suc n) all = all_before P p (passed p) (picks (p + 1) n) (all p (omega arith) (omega arith)) (each P (p + 1) n (λ k a b. all k (omega (arith, a)) (omega (arith, b))))

  -- if a page of another number is before others, they are looked through
  looked_through : (k p : ℕ) (b : Bool) (others : List (ℕ × Laid)) → (k == p) ≡ false → lookup (λ q. k == q) (before p b others) ≡ lookup (λ q. k == q) others
  looked_through k p true others other = refl
  looked_through k p false others other = ap (λ t. cond t (Some (page p)) (lookup (λ q. k == q) others)) other

  missing : (k p n : ℕ) → k < p → lookup (λ q. k == q) (picks p n) ≡ None
  missing k p zero l = refl
  missing k p (suc n) l =
      let other : (k == p) ≡ false = grind (arith, nat_tests, l) in
      looked_through k p (passed p) (picks (p + 1) n) other ∙ missing k (p + 1) n (omega (arith, l))

  found : (p : ℕ) (b : Bool) (others : List (ℕ × Laid)) → lookup (λ q. p == q) others ≡ None → lookup (λ q. p == q) (before p b others) ≡ cond b None (Some (page p))
  found p true others none = none
  found p false others none = ap (λ t. cond t (Some (page p)) (lookup (λ q. p == q) others)) (same_number p)

  -- what is picked is found by its number
  pub picked : (k p n : ℕ) → p ≤ k → k < p + n → lookup (λ q. k == q) (picks p n) ≡ cond (passed k) None (Some (page k))
  picked k p zero low high = absurd (omega (arith, low, high))
  picked k p (suc n) low high = elim (eq-or-lt_of_le low) [
    | inl e ↦
        let here : lookup (λ q. p == q) (picks p (suc n)) ≡ cond (passed p) None (Some (page p)) = found p (passed p) (picks (p + 1) n) (missing p (p + 1) n (omega arith)) in
        subst (λ j. lookup (λ q. j == q) (picks p (suc n)) ≡ cond (passed j) None (Some (page j))) e here
    | inr h ↦
        let other : (k == p) ≡ false = grind (arith, nat_tests, h) in
        looked_through k p (passed p) (picks (p + 1) n) other ∙ picked k (p + 1) n (omega (arith, h)) (omega (arith, high))
  ]
