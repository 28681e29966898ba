-- The host of an executor, and what becomes of it.
use Rattle.std.specs.Prelude.{◌≡◌, ◌⊎◌, ℕ, Bool, true, false, List, [], ◌∷◌, ◌++◌, Contains, refl}
use Rattle.std.specs.Coded.{Coded, code_by, coded×, coded_list}
use Rattle.decrees.specs.declared.node.Letter.{Letter}
use Rattle.exec_lines.specs.declared.body.Body.{Body}
use Rattle.exec_lines.specs.declared.body.Body.TheVariants as body
use Rattle.exec_lines.specs.declared.input.Input as of_executor
use Rattle.exec_lines.specs.declared.input.Input.TheVariants as executor_input
use Rattle.exec_node.specs.Executor.{ExecutorView}
use Rattle.slots.specs.Slot.{Slot}
use Rattle.slots.specs.Slots.{ExecutorSettles, ExecutorReopens}
use Rattle.slots.specs.Runs.{ExecutorRuns}

pub record HostView : Type 0 where
  pub slot : Slot ExecutorView
  -- orders that came before their turn, as they came
  pub held : List (Letter Body)
  -- what the last run of a job sent, until it is collected
  pub sent : List (Letter Body)

-- a host is identified by what it has
abbrev pub host_code : Coded (Slot ExecutorView) → Coded (Letter Body) → Coded HostView
host_code slot letter =
    code_by ((Slot ExecutorView × List (Letter Body)) × List (Letter Body))
    (coded× (coded× slot (coded_list letter)) (coded_list letter))
    (λ h. ((h.slot, h.held), h.sent))
    (λ p. record { slot = p.0.0; held = p.0.1; sent = p.1 })
    (λ _. refl)

-- its executor was given this input, and sent these
abbrev pub HostSettles : HostView → of_executor.Input → HostView → List (Letter Body) → Type 0
HostSettles h x now new = (slot : Slot ExecutorView) × ExecutorSettles h.slot x slot new × (now ≡ record h { slot = slot })

-- each of these is one of those
abbrev pub LettersAreAmong : List (Letter Body) → List (Letter Body) → Type 0
LettersAreAmong some all = (l : Letter Body) → Contains some l → Contains all l

-- the letter orders a batch
abbrev pub is_order : Body → Bool
is_order (body.Order b) = true
is_order (body.Want r) = false
is_order (body.Reply number reply) = false
is_order (body.Need q) = false
is_order (body.Parcel p) = false
is_order (body.Ballot b) = false

-- an order is held, or let go
abbrev pub HostHolds : HostView → Letter Body → HostView → List (Letter Body) → Type 0
HostHolds h l now new = ((now ≡ record h { held = h.held ++ l ∷ [] }) ⊎ (now ≡ h)) × (new ≡ [])

-- and any other letter is handed in
abbrev pub HostTakesWhere : Bool → HostView → Letter Body → HostView → List (Letter Body) → Type 0
HostTakesWhere true h l now new = HostHolds h l now new
HostTakesWhere false h l now new = HostSettles h (executor_input.Letter l) now new

abbrev pub HostTakes : HostView → Letter Body → HostView → List (Letter Body) → Type 0
HostTakes h l now new = HostTakesWhere (is_order l.body) h l now new

-- some of what is held was let go
abbrev pub HostForgets : HostView → HostView → Type 0
HostForgets h now = (rest : List (Letter Body)) × LettersAreAmong rest h.held × (now ≡ record h { held = rest })

-- one that was held was handed in, and some were let go
pub record HostObeys (h now : HostView) (new : List (Letter Body)) : Type 0 where
  pub order : Letter Body
  pub was_held : Contains h.held order
  pub rest : List (Letter Body)
  pub among : LettersAreAmong rest h.held
  pub settles : HostSettles (record h { held = rest }) (executor_input.Letter order) now new

-- its executor ran its job
abbrev pub HostRuns : HostView → HostView → Type 0
HostRuns h now = (slot : Slot ExecutorView) × (new : List (Letter Body)) × ExecutorRuns h.slot slot new × (now ≡ record h { slot = slot; sent = new })

-- its executor was opened, as this number
abbrev pub HostReopens : ℕ → ℕ → HostView → HostView → List (Letter Body) → Type 0
HostReopens u id h now new = (slot : Slot ExecutorView) × ExecutorReopens u id h.slot slot new × (now ≡ record h { slot = slot })

-- what it sent was collected
abbrev pub HostCollects : HostView → HostView → List (Letter Body) → Type 0
HostCollects h now new = (now ≡ record h { sent = [] }) × (new ≡ h.sent)
