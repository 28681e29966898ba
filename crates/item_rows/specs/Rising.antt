-- Entries in the order of some number of their keys.
use Rattle.std.specs.Prelude.{ℕ, ◌≤◌, List, [], ◌∷◌}

-- the numbers of these keys are this one or above it
abbrev pub AllFrom : {K V : Type 0} → (K → ℕ) → ℕ → List (K × V) → Type 0
AllFrom f low [] = Unit {0}
AllFrom f low (e ∷ es) = (low ≤ f e.0) × AllFrom f low es

-- no number is below one before it
abbrev pub AreRising : {K V : Type 0} → (K → ℕ) → List (K × V) → Type 0
AreRising f [] = Unit {0}
AreRising f (e ∷ es) = AllFrom f (f e.0) es × AreRising f es
