-- Whether an element passes, where the first one does, and what is left without it.
use Rattle.std.proofs.Common.{◌≡◌, ◌⊎◌, inl, inr, ⊎_elim, ℕ, zero, suc, ◌+◌, ◌-◌, ◌<◌, Bool, true, false, List, [], ◌∷◌, length, Some, None, refl, sym, ap, ◌∙◌, subst, arith}
use Rattle.std.specs.Prelude.{nat_lt, is_some, cond, filter, Contains, slice_index_or}
use Rattle.std.specs.List.{list_any, position, position_or_len, remove, find, slice_get}
use Rattle.std.proofs.lemmas.Bool.{lt-ltb, le-ltb, ltb-true, ltb-false, cases_order, both_ways}
use Rattle.std.proofs.lemmas.List.Quantifiers.{position-Some}
use Rattle.std.proofs.lemmas.List.Folds.{find_at}
use Rattle.std.proofs.lemmas.Option.{slice_get_read, slice_get_past}
use Rattle.std.proofs.lemmas.List.Edits.{length-remove, get_or-remove_below, get_or-remove_above}

one_more : (a n : ℕ) → nat_lt (1 + a) (suc n) ≡ nat_lt a n
one_more a n = by (nat_lt a n) refl
  where
    by : (b : Bool) → nat_lt a n ≡ b → nat_lt (1 + a) (suc n) ≡ nat_lt a n
    by true e = (let lt = ltb-true a n e in lt-ltb (1 + a) (suc n) (omega (arith, lt))) ∙ sym e
    by false e = (let ge = ltb-false a n e in le-ltb (1 + a) (suc n) (omega (arith, ge))) ∙ sym e

is_some_where : {Y : Type 0} (b : Bool) (y : Y) → is_some (cond b (Some y) None) ≡ b
is_some_where true y = refl
is_some_where false y = refl

module _ {X : Type 0} (p : X → Bool) where
  is_within : (xs : List X) → nat_lt (position_or_len p xs) (length xs) ≡ list_any p xs
  is_within [] = refl
  is_within (x ∷ xs) = by (p x) refl (is_within xs)
    where
      by : (b : Bool) → p x ≡ b → nat_lt (position_or_len p xs) (length xs) ≡ list_any p xs → nat_lt (position_or_len p (x ∷ xs)) (length (x ∷ xs)) ≡ list_any p (x ∷ xs)
      by true e rest = rw e (lt-ltb 0 (length (x ∷ xs)) (omega arith))
      by false e rest = rw e (one_more (position_or_len p xs) (length xs) ∙ rest)

  pub position_any : (xs : List X) → is_some (position p xs) ≡ list_any p xs
  position_any xs = is_some_where (nat_lt (position_or_len p xs) (length xs)) (position_or_len p xs) ∙ is_within xs

  place_where : (b : Bool) (n i : ℕ) → cond b (Some n) None ≡ Some i → (b ≡ true) × (n ≡ i)
  place_where true n i e = (refl, cc e)
  place_where false n i e = absurd (cc e)

  none_where : (b : Bool) (n : ℕ) → cond b (Some n) None ≡ None → b ≡ false
  none_where true n e = absurd (cc e)
  none_where false n e = refl

  -- the element at the place of the first one that passes is the first one
  pub find_placed : (xs : List X) (i : ℕ) (x : X) → position p xs ≡ Some i → slice_index_or xs i x ≡ x → find p xs ≡ Some x
  find_placed xs i x e v =
      let place = place_where (nat_lt (position_or_len p xs) (length xs)) (position_or_len p xs) i e in
      find_at p xs ∙ (ap (slice_get xs) place.1 ∙ slice_get_read xs (length xs) i x refl (position-Some p xs i x e).0 (sym v))

  pub find_none : (xs : List X) → position p xs ≡ None → find p xs ≡ None
  find_none xs e =
      let past = none_where (nat_lt (position_or_len p xs) (length xs)) (position_or_len p xs) e in
      find_at p xs ∙ slice_get_past xs (position_or_len p xs) (ltb-false (position_or_len p xs) (length xs) past)

  first_or_other : (y x : X) (xs : List X) → Contains (y ∷ xs) x → (y ≡ x) ⊎ Contains xs x
  first_or_other y x xs (zero, lt, e) = inl e
  first_or_other y x xs (suc k, lt, e) = inr (k, omega (arith, lt), e)

  in_head : (y x : X) (xs : List X) → y ≡ x → Contains (y ∷ xs) x
  in_head y x xs e = (0, omega arith, e)

  in_tail : (y x : X) (xs : List X) → Contains xs x → Contains (y ∷ xs) x
  in_tail y x xs (k, lt, e) = (suc k, omega (arith, lt), e)

  -- what passes is kept
  pub in_filter : (xs : List X) (x : X) → Contains xs x → p x ≡ true → Contains (filter p xs) x
  in_filter [] x (k, lt, e) passes = absurd (omega (arith, lt))
  in_filter (y ∷ xs) x c passes = by (p y) refl (λ later. in_filter xs x later passes) (first_or_other y x xs c)
    where
      by : (b : Bool) → p y ≡ b → (Contains xs x → Contains (filter p xs) x) → (y ≡ x) ⊎ Contains xs x → Contains (filter p (y ∷ xs)) x
      by true e rest (inl same) = rw e (in_head y x (filter p xs) same)
      by true e rest (inr later) = rw e (in_tail y x (filter p xs) (rest later))
      by false e rest (inl same) = absurd (both_ways (p x) (sym (ap p same) ∙ e) passes)
      by false e rest (inr later) = rw e (rest later)

module _ {X : Type 0} where
  -- what is not at the place that is taken out is kept
  pub in_removed : (xs : List X) (i : ℕ) (x : X) → i < length xs → Contains xs x → (slice_index_or xs i x ≡ x) ⊎ Contains (remove xs i) x
  in_removed xs i x within (k, lt, e) = by (cases_order k i)
    where
      by : (k ≡ i) ⊎ ((k < i) ⊎ (i < k)) → (slice_index_or xs i x ≡ x) ⊎ Contains (remove xs i) x
      by (inl same) = inl (subst (λ (j : ℕ). slice_index_or xs j x ≡ x) same e)
      by (inr (inl less)) = inr (k, (let one = length-remove xs i within in omega (arith, one, less, within)), get_or-remove_below xs i x k less within ∙ e)
      by (inr (inr more)) =
          let j = k - 1 in
          let next : j + 1 ≡ k = omega (arith, more) in
          inr (j, (let one = length-remove xs i within in omega (arith, one, more, lt)), get_or-remove_above xs i x j (omega (arith, more)) within ∙ (ap (λ (m : ℕ). slice_index_or xs m x) next ∙ e))

  -- an element that does not pass is kept when the first one that does is taken out
  pub in_others : (p : X → Bool) (xs : List X) (i : ℕ) (x : X) → position p xs ≡ Some i → Contains xs x → p x ≡ false → Contains (remove xs i) x
  in_others p xs i x is c fails =
      let at = position-Some p xs i x is in
      ⊎_elim
      (λ (same : slice_index_or xs i x ≡ x). absurd (both_ways (p x) fails (sym (ap p same) ∙ at.1)))
      (λ (kept : Contains (remove xs i) x). kept)
      (in_removed xs i x at.0 c)
