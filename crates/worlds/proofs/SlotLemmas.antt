-- Members of a list, such as one of slots, that was changed at one index.
use Rattle.std.proofs.Common.{◌≡◌, ◌≢◌, ℕ, zero, suc, ◌<◌, ◌⊎◌, List, [], ◌∷◌, length, Some, inl, inr, refl, ap, ⊎_elim, arith, slice_get, slice_set}

pub get_set : {X : Type 0} (xs : List X) (v : ℕ) (n : X) (i : ℕ) (s : X) → slice_get (slice_set xs v n) i ≡ Some s → ((i ≡ v) × (s ≡ n)) ⊎ ((i ≢ v) × (slice_get xs i ≡ Some s))
get_set [] v n i s e = absurd (cc)
get_set (x ∷ xs) zero n zero s e = inl (refl, cc)
get_set (x ∷ xs) zero n (suc i) s e = inr ((λ h. omega arith), e)
get_set (x ∷ xs) (suc v) n zero s e = inr ((λ h. omega arith), e)
get_set (x ∷ xs) (suc v) n (suc i) s e = ⊎_elim (λ p. inl (ap suc p.0, p.1)) (λ p. inr ((λ h. p.0 (omega (arith, h))), p.1)) (get_set xs v n i s e)

pub set_get : {X : Type 0} (xs : List X) (v : ℕ) (n old : X) → slice_get xs v ≡ Some old → slice_get (slice_set xs v n) v ≡ Some n
set_get [] v n old e = absurd (cc)
set_get (x ∷ xs) zero n old e = refl
set_get (x ∷ xs) (suc v) n old e = set_get xs v n old e

pub set_other : {X : Type 0} (xs : List X) (v : ℕ) (n : X) (i : ℕ) → i ≢ v → slice_get (slice_set xs v n) i ≡ slice_get xs i
set_other [] v n i d = refl
set_other (x ∷ xs) zero n zero d = absurd (d refl)
set_other (x ∷ xs) zero n (suc i) d = refl
set_other (x ∷ xs) (suc v) n zero d = refl
set_other (x ∷ xs) (suc v) n (suc i) d = set_other xs v n i (λ e. d (ap suc e))

pub get_within : {X : Type 0} (xs : List X) (v : ℕ) → v < length xs → (x : X) × (slice_get xs v ≡ Some x)
get_within [] v h = absurd (omega arith)
get_within (x ∷ xs) zero h = (x, refl)
get_within (x ∷ xs) (suc v) h = get_within xs v (omega arith)
