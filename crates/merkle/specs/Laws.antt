-- What a digest tells.
use Rattle.std.specs.Prelude.{◌≡◌, ℕ, Bool, List, Contains}
use Rattle.std.specs.declared.cmp.Ordering.{Ordering}
use Rattle.std.specs.FinMap.{FinMap}
use Rattle.wire.specs.Distinct.{Distinct}
use Rattle.merkle.specs.Digest.{map_digest, map_texts}

pub record TextsAreAmong (texts : List (List ℕ)) (among : List ℕ → Type 0) : Type 0 where
  pub each : (a : List ℕ) → Contains texts a → among a

-- two keys with values that have one text are one
abbrev pub IsExact : {K V : Type 0} → (K → V → List ℕ) → Type 0
IsExact {K} {V} text = (k l : K) (v w : V) → text k v ≡ text l w → (k ≡ l) × (v ≡ w)

-- maps that have one digest are one map
abbrev pub TellsMaps : {K V : Type 0} → (K → K → Ordering) → (K → V → List ℕ) → (K → ℕ → Bool) → ℕ → Type 0
TellsMaps {K} {V} R text bit bits =
    IsExact text → (texts : List (List ℕ)) → Distinct (Contains texts) → (m n : FinMap R V)
    → TextsAreAmong (map_texts text bit bits m) (Contains texts) → TextsAreAmong (map_texts text bit bits n) (Contains texts)
    → map_digest text bit bits m ≡ map_digest text bit bits n → m ≡ n
