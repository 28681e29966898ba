-- The least group after the last one is the next.
use Rattle.std.proofs.Common.{◌≡◌, ℕ, zero, suc, ◌≤◌, Bool, true, false, List, [], ◌∷◌, Some, None, Option, refl, sym, ap, ◌∙◌, arith, subst, ◌⊎◌, inl, inr, min, nat_le}
use Rattle.std.specs.Prelude.{slice_get}
use Rattle.std.proofs.lemmas.Bool.{cases_Bool, leb-true, leb-false}
use Rattle.std.proofs.lemmas.Option.{same_Some}
use Rattle.executor.specs.BatchRequest.{BatchRequest}
use Rattle.executor.specs.Work.{comes_after, IsNextGroup, IsLast, lesser, lesser_if, least_of}
use Rattle.executor.proofs.PartialLemmas.{Each, all-of-each}

-- what the least of some groups, and of one that was found before, is
record Least (last found : Option ℕ) (xs : List BatchRequest) (n : ℕ) : Type 0 where
  from : (found ≡ Some n) ⊎ ((i : ℕ) × (x : BatchRequest) × (slice_get xs i ≡ Some x) × (x.group ≡ n) × (comes_after last n ≡ true))
  below : Each (λ x. comes_after last x.group ≡ true → n ≤ x.group) xs
  first : (m : ℕ) → found ≡ Some m → n ≤ m

least_is : (last found : Option ℕ) (xs : List BatchRequest) (n : ℕ) → least_of last found xs ≡ Some n → Least last found xs n
least_is last found [] n e = record { from = inl e; below = λ i x at. absurd (cc at); first = λ m f. (let same : m ≡ n = same_Some m n (sym f ∙ e) in omega (arith, same)) }
least_is last found (r ∷ rs) n e = by (comes_after last r.group) refl found (least_is last (lesser last found r.group) rs n e)
  where
    by : (b : Bool) → comes_after last r.group ≡ b → (found : Option ℕ) → Least last (lesser_if (comes_after last r.group) found r.group) rs n → Least last found (r ∷ rs) n
    by false t found h =
        let l = subst (λ (b : Bool). Least last (lesser_if b found r.group) rs n) t h in
        record {
          from = elim l.from [ inl f ↦ inl f | inr g ↦ inr (suc g.0, g.1, g.2, g.3, g.4) ];
          below = λ i x at. under i x at l.below t;
          first = l.first;
        }
      where
        under : (i : ℕ) (x : BatchRequest) → slice_get (r ∷ rs) i ≡ Some x → Each (λ x. comes_after last x.group ≡ true → n ≤ x.group) rs → comes_after last r.group ≡ false → comes_after last x.group ≡ true → n ≤ x.group
        under zero x at below t u = absurd (let here : r ≡ x = cc at in let clash : false ≡ true = sym t ∙ ap (λ (y : BatchRequest). comes_after last y.group) here ∙ u in cc clash)
        under (suc i) x at below t u = below i x at u
    by true t None h =
        let l = subst (λ (b : Bool). Least last (lesser_if b None r.group) rs n) t h in
        record {
          from = inr (elim l.from [ inl f ↦ (0, r, refl, same_Some r.group n f, ap (comes_after last) (sym (same_Some r.group n f)) ∙ t) | inr g ↦ (suc g.0, g.1, g.2, g.3, g.4) ]);
          below = λ i x at. under i x at l.below (l.first r.group refl);
          first = λ m f. absurd (cc f);
        }
      where
        under : (i : ℕ) (x : BatchRequest) → slice_get (r ∷ rs) i ≡ Some x → Each (λ x. comes_after last x.group ≡ true → n ≤ x.group) rs → n ≤ r.group → comes_after last x.group ≡ true → n ≤ x.group
        under zero x at below l u = let here : r ≡ x = cc at in omega (arith, l, ap (λ (y : BatchRequest). y.group) here)
        under (suc i) x at below l u = below i x at u
    by true t (Some m) h =
        let l = subst (λ (b : Bool). Least last (lesser_if b (Some m) r.group) rs n) t h in
        let low = l.first (min m r.group) refl in
        record {
          from = elim l.from [
            | inl f ↦ pick m (same_Some (min m r.group) n f) t
            | inr g ↦ inr (suc g.0, g.1, g.2, g.3, g.4)
          ];
          below = λ i x at. under i x at l.below (omega (arith, low));
          first = λ k f. (let k_is : m ≡ k = same_Some m k f in omega (arith, low, k_is));
        }
      where
        under : (i : ℕ) (x : BatchRequest) → slice_get (r ∷ rs) i ≡ Some x → Each (λ x. comes_after last x.group ≡ true → n ≤ x.group) rs → n ≤ r.group → comes_after last x.group ≡ true → n ≤ x.group
        under zero x at below l u = let here : r ≡ x = cc at in omega (arith, l, ap (λ (y : BatchRequest). y.group) here)
        under (suc i) x at below l u = below i x at u

        least_one : (a b : ℕ) → (min a b ≡ a) ⊎ (min a b ≡ b)
        least_one a b = elim (cases_Bool (nat_le a b)) [
          | inl t ↦ inl (let l = leb-true a b t in omega (arith, l))
          | inr f ↦ inr (let l = leb-false a b f in omega (arith, l))
        ]

        pick : (m : ℕ) → min m r.group ≡ n → comes_after last r.group ≡ true → (◌≡◌ {A = Option ℕ} (Some m) (Some n)) ⊎ ((i : ℕ) × (x : BatchRequest) × (slice_get (r ∷ rs) i ≡ Some x) × (x.group ≡ n) × (comes_after last n ≡ true))
        pick m e t = elim (least_one m r.group) [
          | inl a ↦ inl (ap (λ k. Some k) (sym a ∙ e))
          | inr b ↦ inr (0, r, refl, sym b ∙ e, ap (comes_after last) (sym e ∙ b) ∙ t)
        ]

none_found : (last found : Option ℕ) (xs : List BatchRequest) → least_of last found xs ≡ None → (found ≡ None) × Each (λ x. comes_after last x.group ≡ false) xs
none_found last found [] e = (e, λ i x at. absurd (cc at))
none_found last found (r ∷ rs) e =
    let later = none_found last (lesser last found r.group) rs e in
    by (comes_after last r.group) refl found later.0 later.1
  where
    by : (b : Bool) → comes_after last r.group ≡ b → (found : Option ℕ) → lesser_if (comes_after last r.group) found r.group ≡ None → Each (λ x. comes_after last x.group ≡ false) rs
        → (found ≡ None) × Each (λ x. comes_after last x.group ≡ false) (r ∷ rs)
    by true t None h later = absurd (let clash : ◌≡◌ {A = Option ℕ} (Some r.group) None = ap (λ (b : Bool). lesser_if b None r.group) (sym t) ∙ h in cc clash)
    by true t (Some m) h later = absurd (let clash : ◌≡◌ {A = Option ℕ} (Some (min m r.group)) None = ap (λ (b : Bool). lesser_if b (Some m) r.group) (sym t) ∙ h in cc clash)
    by false t found h later = (ap (λ (b : Bool). lesser_if b found r.group) (sym t) ∙ h, λ i x at. each i x at)
      where
        each : (i : ℕ) (x : BatchRequest) → slice_get (r ∷ rs) i ≡ Some x → comes_after last x.group ≡ false
        each zero x at = let here : r ≡ x = cc at in ap (λ (y : BatchRequest). comes_after last y.group) (sym here) ∙ t
        each (suc i) x at = later i x at

pub least_is_next : (last : Option ℕ) (xs : List BatchRequest) (n : ℕ) → least_of last None xs ≡ Some n → IsNextGroup xs last n
least_is_next last xs n e =
    let l = least_is last None xs n e in
    elim l.from [
      | inl f ↦ absurd (cc f)
      | inr g ↦ record { index = g.0; request = g.1; there = g.2; its = g.3; above = g.4; least = all-of-each (λ x. comes_after last x.group ≡ true → n ≤ x.group) xs l.below }
    ]

pub none_is_last : (last : Option ℕ) (xs : List BatchRequest) → least_of last None xs ≡ None → IsLast xs last
none_is_last last xs e = all-of-each (λ x. comes_after last x.group ≡ false) xs (none_found last None xs e).1
