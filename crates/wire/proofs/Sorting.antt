-- Entries of which each is below the next are in order.
use Rattle.std.proofs.Common.{◌≡◌, ℕ, zero, suc, ◌+◌, ◌<◌, Bool, true, false, List, [], ◌∷◌, length, get_or, refl, sym, ◌∙◌, ap, subst, add-one, arith, inl, inr}
use Rattle.std.specs.Prelude.{MatchBool}
use Rattle.std.specs.List.{list_all, AllAdjacentBelow}
use Rattle.std.specs.declared.cmp.Ordering.{Ordering}
use Rattle.std.specs.declared.cmp.Ordering.TheVariants.{Less}
use Rattle.std.specs.Ordering.{is_lt}
use Rattle.std.specs.Cmp.{IsTotalOrder}
use Rattle.std.specs.FinMap.{is_sorted}
use Rattle.std.specs.FinMap.Entries.{below_all}
use Rattle.std.proofs.lemmas.Bool.{and_parts, cases_Bool}
use Rattle.base.proofs.Sorted.{rises, lt_is}

module _ {K X : Type 0} {R : K → K → Ordering} (o : IsTotalOrder R) where
  below_more : (x y : K) (es : List (K × X)) → R x y ≡ Less → below_all R y es ≡ true → below_all R x es ≡ true
  below_more x y [] l h = refl
  below_more x y (e ∷ es) l h =
      let both = and_parts _ _ h in
      rw (o.trans x y e.0 l (lt_is _ both.0)) (below_more x y es l both.1)

  sorted_by_steps : (es : List (K × X)) → ((k : ℕ) (d : K × X) → suc k < length es → is_lt (R (get_or es k d).0 (get_or es (suc k) d).0) ≡ true) → is_sorted R es ≡ true
  sorted_by_steps [] h = refl
  sorted_by_steps (e ∷ []) h = refl
  sorted_by_steps (e ∷ f ∷ es) h =
      let first : R e.0 f.0 ≡ Less = lt_is _ (h 0 e (omega arith)) in
      let others : is_sorted R (f ∷ es) ≡ true = sorted_by_steps (f ∷ es) (λ k d lt. h (suc k) d (omega arith)) in
      let both = and_parts _ _ others in
      rw (first, below_more e.0 f.0 es first both.0) others

  pub sorted_of : (es : List (K × X)) → ((k : ℕ) (d : K × X) → k + 1 < length es → is_lt (R (get_or es k d).0 (get_or es (k + 1) d).0) ≡ true) → is_sorted R es ≡ true
  sorted_of es h = sorted_by_steps es (λ k d lt. subst (λ (j : ℕ). is_lt (R (get_or es k d).0 (get_or es j d).0) ≡ true) (add-one k) (h k d (omega arith)))

  pub sorted_answer : (es : List (K × X)) (r : Bool)
      → MatchBool r (AllAdjacentBelow (λ x y. true ≡ is_lt (R x.0 y.0)) es (length es)) ((k : ℕ) × (k + 1 < length es) × ((d : K × X) → false ≡ is_lt (R (get_or es k d).0 (get_or es (k + 1) d).0)))
      → r ≡ is_sorted R es
  sorted_answer es true h = sym (sorted_of es (λ k d lt. sym (h k d lt)))
  sorted_answer [] false h = absurd (omega (arith, h.1))
  sorted_answer (e ∷ es) false h =
      elim (cases_Bool (is_sorted R (e ∷ es))) [
        | inl sorted ↦
            let less : R (get_or (e ∷ es) h.0 e).0 (get_or (e ∷ es) (h.0 + 1) e).0 ≡ Less = rises o (e ∷ es) sorted h.0 (h.0 + 1) e (omega arith) h.1 in
            let clash : false ≡ true = h.2 e ∙ ap is_lt less in
            absurd (cc clash)
        | inr not ↦ sym not
      ]

-- what each element passes
pub list_all_of : {X : Type 0} (p : X → Bool) (xs : List X) → list_all p xs ≡ true → (k : ℕ) (d : X) → k < length xs → p (get_or xs k d) ≡ true
list_all_of p [] h k d lt = absurd (omega arith)
list_all_of p (x ∷ xs) h zero d lt = (and_parts _ _ h).0
list_all_of p (x ∷ xs) h (suc k) d lt = list_all_of p xs (and_parts _ _ h).1 k d (omega arith)

pub all_listed : {X : Type 0} (p : X → Bool) (xs : List X) → ((k : ℕ) (d : X) → k < length xs → p (get_or xs k d) ≡ true) → list_all p xs ≡ true
all_listed p [] h = refl
all_listed p (x ∷ xs) h = rw (h 0 x (omega arith)) (all_listed p xs (λ k d lt. h (suc k) d (omega arith)))
