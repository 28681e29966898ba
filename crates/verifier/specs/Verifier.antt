-- A verifier with its record.
use Rattle.std.specs.Prelude.{◌≡◌, ℕ, ◌-◌, ◌^◌, ◌≤◌, ◌⊎◌, Bool, true, IsTrue, List, [], Option, None, Some, Result, Ok, Err, if◌then◌else◌}
use Rattle.base.specs.declared.fault.Fault.{Fault}
use Rattle.wire.specs.Record.{Refused}
use Rattle.decrees.specs.declared.ballot.Ballot.{Ballot}
use Rattle.decrees.specs.declared.node.Letter.{Letter}
use Rattle.verifier.specs.declared.input.Input.{Input}
use Rattle.verifier.specs.State.{VerifierState, OutcomeView, next_place, new_state}
use Rattle.verifier.specs.Lines.{restarted}
use Rattle.verifier.specs.Step.{step}
use Rattle.verifier.specs.Record.{record_text, IsRecord}

pub record VerifierView : Type 0 where
  pub id : ℕ
  -- how many of 2u + 1 may fail
  pub u : ℕ
  pub state : VerifierState
  -- whether it was not stopped
  pub up : Bool
  -- the record that its keeper has, and how many saves have failed
  pub saved : Option (List ℕ)
  pub failures : ℕ
  -- whether the keeper's next save is set to fail
  pub told : Bool

abbrev pub outcome : VerifierView → Input → OutcomeView
outcome v input = step v.u v.id v.state input

-- the record after a step that is done
abbrev pub record_after : VerifierView → OutcomeView → Option (List ℕ)
record_after v o = if o.saves then Some (record_text v.u v.id o.state) else v.saved

-- the verifier after a step that is done
abbrev pub handled : VerifierView → Input → VerifierView
handled v input = record v { state = (outcome v input).state; saved = record_after v (outcome v input) }

-- the step would take a counter above its limit, its view or the place after what it knows, or needs a save that could not be counted if it failed
abbrev pub IsAtLimit : VerifierView → Input → Type 0
IsAtLimit v input = (2 ^ 64 ≤ (outcome v input).state.view) ⊎ (2 ^ 64 ≤ next_place (outcome v input).state) ⊎ (IsTrue (outcome v input).saves × (v.failures ≡ 2 ^ 64 - 1))

-- a verifier that was opened: new, or with the state of its record
abbrev pub Opens : ℕ → ℕ → Option (List ℕ) → ℕ → Bool → VerifierView → List (Letter Ballot) → Type 0
Opens u id None failures told v letters =
    (v ≡ record { id = id; u = u; state = new_state u id; up = true; saved = Some (record_text u id (new_state u id)); failures = failures; told = told }) × (letters ≡ [])
Opens u id (Some bytes) failures told v letters =
    (v ≡ record { id = id; u = u; state = v.state; up = true; saved = Some bytes; failures = failures; told = told }) × IsRecord u id bytes v.state × (letters ≡ (restarted u id v.state).letters)

-- there is a record, and it is not one of this verifier
abbrev pub IsUnreadable : ℕ → ℕ → Option (List ℕ) → Type 0
IsUnreadable u id None = ⊥
IsUnreadable u id (Some bytes) = (s : VerifierState) → IsRecord u id bytes s → ⊥

-- what a keeper's record gives
abbrev pub Stored : ℕ → ℕ → Option (List ℕ) → Option (Result VerifierState Fault) → Type 0
Stored u id None None = Unit {0}
Stored u id None (Some r) = ⊥
Stored u id (Some bytes) None = ⊥
Stored u id (Some bytes) (Some (Ok s)) = IsRecord u id bytes s
Stored u id (Some bytes) (Some (Err fault)) = Refused fault ((s : VerifierState) → IsRecord u id bytes s → ⊥)
