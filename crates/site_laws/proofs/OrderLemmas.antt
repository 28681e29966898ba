-- One member among others.
use Rattle.std.proofs.Common.{◌≡◌, ℕ, Bool, true, false, List, ◌∷◌, refl, ap}
use Rattle.std.specs.Prelude.{◌==◌, if◌then◌else◌}
use Rattle.std.proofs.lemmas.Bool.{eq-eqb}
use Rattle.site_laws.specs.Orders.{deed_if, deeds_of, put_at}

module _ {N : Type 0} (parts : ℕ → N) (m : ℕ) (n : N) where
  pub put_same : (k : ℕ) → (m == k) ≡ true → put_at parts m n k ≡ n
  put_same k same = ap (λ (here : Bool). if here then n else parts k) same

  pub put_here : put_at parts m n m ≡ n
  put_here = put_same m (eq-eqb m m refl)

  pub put_other : (k : ℕ) → (m == k) ≡ false → put_at parts m n k ≡ parts k
  put_other k other = ap (λ (here : Bool). if here then n else parts k) other

module _ {D : Type 0} (m : ℕ) (d : D) (order : List (ℕ × D)) where
  pub own_first : deeds_of m ((m, d) ∷ order) ≡ d ∷ deeds_of m order
  own_first = ap (λ (here : Bool). deed_if here d (deeds_of m order)) (eq-eqb m m refl)

  pub other_first : (k : ℕ) → (m == k) ≡ false → deeds_of k ((m, d) ∷ order) ≡ deeds_of k order
  other_first k other = ap (λ (here : Bool). deed_if here d (deeds_of k order)) other
