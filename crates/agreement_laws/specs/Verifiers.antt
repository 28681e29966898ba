-- The verifiers of the machine are those of the code: what `verifier` promises of its calls are the machine's lines.
use Rattle.std.specs.Prelude.{◌≡◌, ℕ, Bool, true, not, IsTrue, List, [], Option, Some, None, slice_get}
use Rattle.decrees.specs.Start.{could_stand}
use Rattle.verifier.specs.declared.input.Input.{Input}
use Rattle.verifier.specs.State.{VerifierState, new_state, down}
use Rattle.verifier.specs.Lines.{restarted}
use Rattle.verifier.specs.Step.{step}
use Rattle.verifier.specs.Record.{record_text}
use Rattle.verifier.specs.Verifier.{VerifierView, outcome, handled, Opens}
use Rattle.agreement_laws.specs.Letters.{Letters}
use Rattle.agreement_laws.specs.Machine.{VerifierSlot, New, Up, Stopped, Machine, StopsBefore, Event, Restart, saved_after, happens, reached}

-- verifier `id` of the machine is this one of the code
abbrev pub IsIn : ℕ → ℕ → VerifierSlot → VerifierView → Type 0
IsIn u id New verifier = ⊥
IsIn u id (Up s saved) verifier = verifier ≡ record { id = id; u = u; state = s; up = true; saved = Some (record_text u id saved); failures = verifier.failures; told = verifier.told }
IsIn u id (Stopped saved) verifier = (verifier.id ≡ id) × (verifier.u ≡ u) × IsTrue (not verifier.up) × (verifier.saved ≡ Some (record_text u id saved))

-- an Ok of `handle` is a step that is done
abbrev pub HandledIsDone : Type 0
HandledIsDone = (u id : ℕ) (s saved : VerifierState) (verifier : VerifierView) (x : Input) → IsIn u id (Up s saved) verifier
    → IsIn u id (Up (step u id s x).state (saved_after saved (step u id s x))) (handled verifier x) × ((outcome verifier x).letters ≡ (step u id s x).letters)

-- an Err of it leaves the record, so the verifier stops before the step
abbrev pub RefusedIsStopped : Type 0
RefusedIsStopped = (u id : ℕ) (s saved : VerifierState) (verifier after : VerifierView) → IsIn u id (Up s saved) verifier
    → (after.id ≡ verifier.id) × (after.u ≡ verifier.u) → IsTrue (not after.up) → after.saved ≡ verifier.saved → IsIn u id (Stopped saved) after

-- an Ok of `open` is a Restart that is done: of a new verifier, and of one that has a record, which begins at what could stand there
pub record OpenedIsDone : Type 0 where
  pub new : (u id failures : ℕ) (told : Bool) (verifier : VerifierView) (letters : Letters) → Opens u id None failures told verifier letters
      → IsIn u id (Up (new_state u id) (down (new_state u id))) verifier × (letters ≡ [])
  pub again : (u id failures : ℕ) (told : Bool) (s : VerifierState) (verifier : VerifierView) (letters : Letters) → IsTrue (could_stand s.start.place s.start.standing) → Opens u id (Some (record_text u id (down s))) failures told verifier letters
      → IsIn u id (Up (restarted u id (down s)).state (saved_after (down s) (restarted u id (down s)))) verifier × (letters ≡ (restarted u id (down s)).letters)

-- a verifier that has stopped is opened with what its slot has: an Ok of `open` over its record is a Restart of it that is done
abbrev pub ReopenedIsDone : Type 0
ReopenedIsDone = (u : ℕ) (events : List Event) (id : ℕ) (saved : VerifierState) (old verifier : VerifierView) (letters : Letters)
    → slice_get (reached u events).verifiers id ≡ Some (Stopped saved) → IsIn u id (Stopped saved) old → Opens u id old.saved old.failures old.told verifier letters
    → IsIn u id (Up (restarted u id saved).state (saved_after saved (restarted u id saved))) verifier × (letters ≡ (restarted u id saved).letters)

-- what the keeper has of a verifier that is not up
abbrev pub IsKeptAt : ℕ → ℕ → VerifierSlot → Option (List ℕ) → Type 0
IsKeptAt u id New kept = kept ≡ None
IsKeptAt u id (Up s saved) kept = ⊥
IsKeptAt u id (Stopped saved) kept = kept ≡ Some (record_text u id saved)

-- an Err of `open` leaves what the keeper has, so it is a Restart that stops before anything is saved, which changes nothing
abbrev pub RefusedOpenIsStopped : Type 0
RefusedOpenIsStopped = (u id : ℕ) (m : Machine) (slot : VerifierSlot) (before after : Option (List ℕ))
    → slice_get m.verifiers id ≡ Some slot → IsKeptAt u id slot before → after ≡ before
    → IsKeptAt u id slot after × (happens u m (Restart id StopsBefore) ≡ m)
