-- Elements of lists, and lists of which each element is in another or is such a one.
use Rattle.std.proofs.Common.{map, ◌≡◌, zero, suc, ◌⊎◌, inl, inr, ⊎_elim, List, [], ◌∷◌, ◌++◌, refl, subst, arith}
use Rattle.std.specs.Prelude.{Contains}
use Rattle.std.proofs.lemmas.List.Elements.{Contains-append_left, Contains-append_right, Contains-append_cases}
use Rattle.run_laws.specs.Met.{AreAmong, AreAll}

module _ {X : Type 0} where
  pub in_head : (x : X) (xs : List X) → Contains (x ∷ xs) x
  in_head x xs = (0, omega arith, refl)

  pub in_tail : (x y : X) (xs : List X) → Contains xs y → Contains (x ∷ xs) y
  in_tail x y xs (k, lt, e) = (suc k, omega (arith, lt), e)

  -- an element of the list is its first or one of the others
  pub first_or_other : (x y : X) (xs : List X) → Contains (x ∷ xs) y → (x ≡ y) ⊎ Contains xs y
  first_or_other x y xs (zero, lt, e) = inl e
  first_or_other x y xs (suc k, lt, e) = inr (k, omega (arith, lt), e)

  pub in_none : (y : X) → Contains [] y → ⊥
  in_none y (k, lt, e) = omega (arith, lt)

  pub among_left : (xs ys all : List X) → AreAmong (xs ++ ys) all → AreAmong xs all
  among_left xs ys all h x c = h x (Contains-append_left xs ys x c)

  pub among_right : (xs ys all : List X) → AreAmong (xs ++ ys) all → AreAmong ys all
  among_right xs ys all h x c = h x (Contains-append_right xs ys x c)

  pub among_head : (x : X) (xs all : List X) → AreAmong (x ∷ xs) all → Contains all x
  among_head x xs all h = h x (in_head x xs)

  pub among_tail : (x : X) (xs all : List X) → AreAmong (x ∷ xs) all → AreAmong xs all
  among_tail x xs all h y c = h y (in_tail x y xs c)

  pub all_both : (such : X → Type 0) (xs ys : List X) → AreAll xs such → AreAll ys such → AreAll (xs ++ ys) such
  all_both such xs ys h k x c = ⊎_elim (h x) (k x) (Contains-append_cases xs ys x c)

  pub all_cons : (such : X → Type 0) (x : X) (xs : List X) → such x → AreAll xs such → AreAll (x ∷ xs) such
  all_cons such x xs h k y c = ⊎_elim (λ (e : x ≡ y). subst such e h) (k y) (first_or_other x y xs c)

-- an element of a mapped list is made of one of the list
pub in_map : {X Y : Type 0} (f : X → Y) (xs : List X) (y : Y) → Contains (map f xs) y → (x : X) × Contains xs x × (f x ≡ y)
in_map f [] y c = absurd (in_none y c)
in_map f (x ∷ xs) y c = elim (first_or_other (f x) y (map f xs) c) [
  | inl e ↦ (x, in_head x xs, e)
  | inr there ↦
      let w = in_map f xs y there in
      (w.0, in_tail x w.0 xs w.1, w.2)
]
