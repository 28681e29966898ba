-- Places of lists.
use Rattle.std.proofs.Common.{◌≡◌, ℕ, zero, suc, List, [], ◌∷◌, None, slice_get, slice_set, refl, ap}

-- where nothing is nothing is set
pub set_none : {X : Type 0} (xs : List X) (i : ℕ) (x : X) → slice_get xs i ≡ None → slice_set xs i x ≡ xs
set_none [] i x none = refl
set_none (y ∷ xs) zero x none = absurd (cc none)
set_none {X} (y ∷ xs) (suc i) x none = ap (λ (ys : List X). y ∷ ys) (set_none xs i x none)
