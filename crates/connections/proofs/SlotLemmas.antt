-- Slots of a table.
use Rattle.std.proofs.Common.{◌≡◌, ◌⊎◌, inl, inr, ℕ, zero, suc, ◌<◌, Bool, true, false, List, [], ◌∷◌, ◌++◌, length, Option, None, Some, slice_get, slice_set, refl, sym, ap, ◌∙◌, arith}
use Rattle.std.specs.Prelude.{◌≢◌, ◌==◌}
use Rattle.std.proofs.lemmas.Bool.{eq-eqb, eqb-true}
use Rattle.connections.specs.Connection.{ConnectionView}
use Rattle.connections.specs.Slots.{connection_at, slot_in, IsGrown, is_of_connection}

module _ {X : Type 0} where
  pub set_get : (xs : List X) (v : ℕ) (n old : X) → slice_get xs v ≡ Some old → slice_get (slice_set xs v n) v ≡ Some n
  set_get [] v n old e = absurd (cc e)
  set_get (x ∷ xs) zero n old e = refl
  set_get (x ∷ xs) (suc v) n old e = set_get xs v n old e

  pub set_other : (xs : List X) (v : ℕ) (n : X) (i : ℕ) → i ≢ v → slice_get (slice_set xs v n) i ≡ slice_get xs i
  set_other [] v n i e = refl
  set_other (x ∷ xs) zero n zero e = absurd (e refl)
  set_other (x ∷ xs) zero n (suc i) e = refl
  set_other (x ∷ xs) (suc v) n zero e = refl
  set_other (x ∷ xs) (suc v) n (suc i) e = set_other xs v n i (λ same. e (ap suc same))

  pub there : (xs : List X) (k : ℕ) → k < length xs → (x : X) × (slice_get xs k ≡ Some x)
  there [] k lt = absurd (omega (arith, lt))
  there (x ∷ xs) zero lt = (x, refl)
  there (x ∷ xs) (suc k) lt = there xs k (omega (arith, lt))

-- a slot that was added has no connection
pub slot_pushed : (table : List (Option ConnectionView)) (key : ℕ) → slot_in (table ++ None ∷ []) key ≡ slot_in table key
slot_pushed [] zero = refl
slot_pushed [] (suc key) = refl
slot_pushed (p ∷ table) zero = refl
slot_pushed (p ∷ table) (suc key) = slot_pushed table key

pub grown_pushed : (old table : List (Option ConnectionView)) → IsGrown old table → IsGrown old (table ++ None ∷ [])
grown_pushed old table g key = slot_pushed table key ∙ g key

-- ---- one slot is set

pub set_slot : (table : List (Option ConnectionView)) (key : ℕ) (p old : Option ConnectionView) → slice_get table key ≡ Some old → slot_in (slice_set table key p) key ≡ p
set_slot table key p old at = ap connection_at (set_get table key p old at)

pub other_slot : (table : List (Option ConnectionView)) (key : ℕ) (p : Option ConnectionView) (i : ℕ) → i ≢ key → slot_in (slice_set table key p) i ≡ slot_in table i
other_slot table key p i e = ap connection_at (set_other table key p i e)

-- a connection that is in a slot
pub slot_there : (table : List (Option ConnectionView)) (key : ℕ) (c : ConnectionView) → slot_in table key ≡ Some c → slice_get table key ≡ Some (Some c)
slot_there table key c at = by (slice_get table key) at
  where
    by : (o : Option (Option ConnectionView)) → connection_at o ≡ Some c → o ≡ Some (Some c)
    by None e = absurd (cc e)
    by (Some p) e = ap (λ (x : Option ConnectionView). Some x) e

-- the connection of a number is here
pub here_is : (number : ℕ) (p : Option ConnectionView) → is_of_connection number p ≡ true → (c : ConnectionView) × (p ≡ Some c) × (c.number ≡ number)
here_is number None e = absurd (cc e)
here_is number (Some c) e = (c, refl, eqb-true c.number number e)

pub same_or_not : (a b : ℕ) → (a ≡ b) ⊎ (a ≢ b)
same_or_not a b = by (a == b) refl
  where
    by : (t : Bool) → (a == b) ≡ t → (a ≡ b) ⊎ (a ≢ b)
    by true e = inl (eqb-true a b e)
    by false e = inr (λ same. let clash : false ≡ true = sym e ∙ eq-eqb a b same in absurd (cc clash))
