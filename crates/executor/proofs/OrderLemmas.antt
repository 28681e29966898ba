-- One step more in an order of several lists.
use Rattle.std.proofs.Common.{◌≡◌, ◌≢◌, ℕ, zero, suc, ◌<◌, List, [], ◌∷◌, ◌++◌, length, get_or, set, Some, Option, refl, sym, ap, ◌∙◌, arith, subst, ◌⊎◌, inl, inr, ⊎_elim}
use Rattle.std.specs.Prelude.{slice_get, slice_set}
use Rattle.std.specs.List.{AllByRecursion}
use Rattle.std.proofs.lemmas.Bool.Decides.{eqb_tells}
use Rattle.std.proofs.lemmas.List.{set-get_or}
use Rattle.std.proofs.lemmas.Option.{get_or_from_slice_get, slice_get-get_or}
use Rattle.round.proofs.Lists.{set_there, set_else}
use Rattle.item_steps.specs.Schedule.{IsInterleaving}

pub same_or_not : (m n : ℕ) → (m ≡ n) ⊎ (m ≢ n)
same_or_not m n = ⊎_elim (λ t. inl t.1) (λ t. inr t.1) (eqb_tells m n)

module _ {X : Type 0} where
  pub set_same : (l : List X) (i : ℕ) (a b : X) → set (set l i a) i b ≡ set l i b
  set_same [] i a b = refl
  set_same (x ∷ l) zero a b = refl
  set_same (x ∷ l) (suc i) a b = ap (λ xs. x ∷ xs) (set_same l i a b)

  pub set_other : (l : List X) (i j : ℕ) (a b : X) → i ≢ j → set (set l i a) j b ≡ set (set l j b) i a
  set_other [] i j a b n = refl
  set_other (x ∷ l) zero zero a b n = absurd (n refl)
  set_other (x ∷ l) zero (suc j) a b n = refl
  set_other (x ∷ l) (suc i) zero a b n = refl
  set_other (x ∷ l) (suc i) (suc j) a b n = ap (λ xs. x ∷ xs) (set_other l i j a b (λ e. n (ap suc e)))

  -- what is there already changes nothing
  pub set_here : (l : List X) (i : ℕ) (x : X) → slice_get l i ≡ Some x → set l i x ≡ l
  set_here l i x at = ap (set l i) (sym (get_or_from_slice_get l i x x at)) ∙ set-get_or l i x

  -- an index within a list has a member
  pub found_at : (l : List X) (i : ℕ) → i < length l → (x : X) × (slice_get l i ≡ Some x)
  found_at [] i within = absurd (omega (arith, within))
  found_at (x ∷ l) i within = (get_or (x ∷ l) i x, slice_get-get_or (x ∷ l) i x within)

module _ {X : Type 0} where
  -- if no list has a member left, one more is an order by itself
  one_left : (lists : List (List X)) (i : ℕ) (xs : List X) (x : X) → AllByRecursion (λ list. list ≡ []) lists → slice_get lists i ≡ Some xs
      → IsInterleaving (slice_set lists i (xs ++ x ∷ [])) (x ∷ [])
  one_left [] i xs x all at = absurd (cc at)
  one_left (l ∷ lists) zero xs x all at =
      let none : xs ≡ [] = (let e : l ≡ xs = cc at in sym e) ∙ all.0 in
      (0, [], ap (λ (ys : List X). Some (ys ++ x ∷ [])) none, (refl, all.1))
  one_left (l ∷ lists) (suc i) xs x all at =
      let rest = one_left lists i xs x all.1 at in
      (suc rest.0, rest.1, rest.2, (all.0, rest.3))

  -- a member that comes last in its list comes last in the order
  pub order_push : (lists : List (List X)) (order : List X) (i : ℕ) (xs : List X) (x : X) → IsInterleaving lists order → slice_get lists i ≡ Some xs
      → IsInterleaving (slice_set lists i (xs ++ x ∷ [])) (order ++ x ∷ [])
  order_push lists [] i xs x all at = one_left lists i xs x all at
  order_push lists (y ∷ order) i xs x h at =
      elim (same_or_not i h.0) [
        | inl same ↦
            let first : xs ≡ y ∷ h.1 = (let e : ◌≡◌ {A = Option (List X)} (Some xs) (Some (y ∷ h.1)) = sym at ∙ ap (slice_get lists) same ∙ h.2 in cc e) in
            let later = order_push (set lists h.0 h.1) order h.0 h.1 x h.3 (set_there lists h.0 h.1 (y ∷ h.1) h.2) in
            let there : slice_get (set lists i (xs ++ x ∷ [])) i ≡ Some (y ∷ (h.1 ++ x ∷ [])) = set_there lists i (xs ++ x ∷ []) xs at ∙ ap (λ (ys : List X). Some (ys ++ x ∷ [])) first in
            let lists_are : set (set lists h.0 h.1) h.0 (h.1 ++ x ∷ []) ≡ set (set lists i (xs ++ x ∷ [])) i (h.1 ++ x ∷ []) =
            set_same lists h.0 h.1 (h.1 ++ x ∷ []) ∙ sym (set_same lists i (xs ++ x ∷ []) (h.1 ++ x ∷ []) ∙ ap (λ k. set lists k (h.1 ++ x ∷ [])) same) in
            (i, h.1 ++ x ∷ [], there, subst (λ (ls : List (List X)). IsInterleaving ls (order ++ x ∷ [])) lists_are later)
        | inr other ↦
            let still : slice_get (set lists h.0 h.1) i ≡ Some xs = set_else lists h.0 h.1 i other ∙ at in
            let later = order_push (set lists h.0 h.1) order i xs x h.3 still in
            let there : slice_get (set lists i (xs ++ x ∷ [])) h.0 ≡ Some (y ∷ h.1) = set_else lists i (xs ++ x ∷ []) h.0 (λ e. other (sym e)) ∙ h.2 in
            (h.0, h.1, there, subst (λ (ls : List (List X)). IsInterleaving ls (order ++ x ∷ [])) (set_other lists h.0 i h.1 (xs ++ x ∷ []) (λ e. other (sym e))) later)
      ]
