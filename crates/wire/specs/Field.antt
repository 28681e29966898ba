-- The fields of records.
use Rattle.std.specs.Prelude.{◌≡◌, ℕ, ◌<◌, ◌^◌, List, [], ◌∷◌, ◌++◌, length, Bool, Option, Some, None, flat_map, All}
use Rattle.std.specs.Int.{w32}
use Rattle.wire.specs.Number.{num, only_if}

-- 0, or 1 and the value
abbrev pub option_text : {X : Type 0} → (X → List ℕ) → Option X → List ℕ
option_text encoding None = 0 ∷ []
option_text encoding (Some x) = 1 ∷ encoding x

-- a count, and so many values
abbrev pub list_text : {X : Type 0} → (X → List ℕ) → List X → List ℕ
list_text encoding xs = num w32 (length xs) ++ flat_map encoding xs

-- such a list if it is allowed; another has no such text
abbrev pub limited_text : {X : Type 0} → (List X → Bool) → (X → List ℕ) → List X → List ℕ
limited_text may encoding xs = only_if (may xs) (list_text encoding xs) (list_text encoding xs)

-- a list whose count has a field, of values that fit
pub record ListFits {X : Type 0} (fits : X → Type 0) (xs : List X) : Type 0 where
  pub count : length xs < 2 ^ 32
  pub each : All fits xs

-- so many values that fit
pub record CountFits {X : Type 0} (count : ℕ) (fits : X → Type 0) (xs : List X) : Type 0 where
  pub is : length xs ≡ count
  pub each : All fits xs
