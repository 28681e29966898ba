-- Moments that were handed in.
use Rattle.std.specs.Prelude.{◌≡◌, ◌⊎◌, ℕ, List, [], ◌∷◌, Option, None, Some, Contains}
use Rattle.ensemble.specs.declared.noted.Noted.{Noted}
use Rattle.ensemble.specs.declared.noted.Noted.TheVariants as noted

-- the moments among what was noted, in order
abbrev pub moments_in : List ((ℕ × ℕ) × Noted) → List ℕ
moments_in [] = []
moments_in ((key, noted.Asked) ∷ order) = moments_in order
moments_in ((key, noted.Answered) ∷ order) = moments_in order
moments_in ((key, noted.Moment) ∷ order) = key.1 ∷ moments_in order

abbrev pub latest_from : ℕ → List ℕ → ℕ
latest_from moment [] = moment
latest_from moment (later ∷ moments) = latest_from later moments

abbrev pub latest_of : List ℕ → Option ℕ
latest_of [] = None
latest_of (moment ∷ moments) = Some (latest_from moment moments)

-- it is the last one of these moments, or one of those that came later
abbrev pub IsSince : List ℕ → List ℕ → ℕ → Type 0
IsSince early late moment = (latest_of early ≡ Some moment) ⊎ Contains late moment

-- the moment of which a batch is that is cut now, if one was noted since a request was asked
abbrev pub now_from : Option ℕ → List ((ℕ × ℕ) × Noted) → Option ℕ
now_from now [] = now
now_from now ((key, noted.Asked) ∷ order) = now_from None order
now_from now ((key, noted.Answered) ∷ order) = now_from now order
now_from now ((key, noted.Moment) ∷ order) = now_from (Some key.1) order

-- it is the moment of now: the last one that was noted, and nothing was asked since
abbrev pub IsNow : List ((ℕ × ℕ) × Noted) → ℕ → Type 0
IsNow order moment = now_from None order ≡ Some moment
