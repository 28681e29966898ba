-- What came of connections, and what they were given, in one order.
use Rattle.std.specs.Prelude.{◌≡◌, ℕ, List, [], ◌∷◌}
use Rattle.connections.specs.declared.history.Passing.{Passing}
use Rattle.connections.specs.declared.history.Passing.TheVariants as passing

-- what it is, and its bytes
abbrev pub Passed : Type 0
Passed = Passing × List ℕ

abbrev pub heard_as : ℕ → List ℕ → Passed
heard_as number piece = (passing.Heard number, piece)

abbrev pub given_as : ℕ → List ℕ → Passed
given_as number bytes = (passing.Given number, bytes)

abbrev pub moment_as : ℕ → Passed
moment_as moment = (passing.Moment moment, [])

-- the pieces that came
abbrev pub heard_among : List Passed → List (ℕ × List ℕ)
heard_among [] = []
heard_among ((passing.Heard number, bytes) ∷ passed) = (number, bytes) ∷ heard_among passed
heard_among ((passing.Given number, bytes) ∷ passed) = heard_among passed
heard_among ((passing.Moment moment, bytes) ∷ passed) = heard_among passed

-- what was given
abbrev pub given_among : List Passed → List (ℕ × List ℕ)
given_among [] = []
given_among ((passing.Heard number, bytes) ∷ passed) = given_among passed
given_among ((passing.Given number, bytes) ∷ passed) = (number, bytes) ∷ given_among passed
given_among ((passing.Moment moment, bytes) ∷ passed) = given_among passed

-- the moments that came, in order
abbrev pub moments_among : List Passed → List ℕ
moments_among [] = []
moments_among ((passing.Heard number, bytes) ∷ passed) = moments_among passed
moments_among ((passing.Given number, bytes) ∷ passed) = moments_among passed
moments_among ((passing.Moment moment, bytes) ∷ passed) = moment ∷ moments_among passed

pub record HistoryView : Type 0 where
  -- what came of each connection, in order, by its number
  pub heard : List (ℕ × List ℕ)
  -- what each connection was given
  pub given : List (ℕ × List ℕ)
  -- both, in one order, with the moments that came between
  pub passed : List Passed

abbrev pub no_history : HistoryView
no_history = record { heard = []; given = []; passed = [] }

-- the two logs are those of the one order
pub record IsHistory (h : HistoryView) : Type 0 where
  pub heard : heard_among h.passed ≡ h.heard
  pub given : given_among h.passed ≡ h.given
