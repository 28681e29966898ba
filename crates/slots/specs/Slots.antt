-- What becomes of the slot of one replica.
use Rattle.std.specs.Prelude.{◌≡◌, ◌⊎◌, ℕ, ◌&&◌, Bool, true, false, not, IsTrue, List, [], ◌++◌, Option, None, Some, is_none}
use Rattle.keeper.specs.Kept.{Kept, CountsFailures}
use Rattle.decrees.specs.declared.ballot.Ballot.{Ballot}
use Rattle.decrees.specs.declared.node.Letter.{Letter}
use Rattle.exec_lines.specs.declared.body.Body.{Body}
use Rattle.exec_lines.specs.declared.input.Input as of_executor
use Rattle.exec_lines.specs.State.{new_executor}
use Rattle.exec_lines.specs.Step.{fits_a_line}
use Rattle.exec_lines.specs.Record.{executor_text}
use Rattle.exec_node.specs.Executor.{ExecutorView, executor_outcome, executor_handled, executor_record_after, OpensExecutor}
use Rattle.verifier.specs.declared.input.Input as of_verifier
use Rattle.verifier.specs.State.{new_state}
use Rattle.verifier.specs.Step.{fits_line}
use Rattle.verifier.specs.Record.{record_text}
use Rattle.verifier.specs.Verifier.{VerifierView, outcome, handled, record_after, Opens}
use Rattle.slots.specs.Slot.{Slot}
use Rattle.slots.specs.declared.slot.Slot.TheVariants.{Up, Down, Gone}

-- what the keeper of a replica has when it stops between two steps
abbrev pub verifier_kept : VerifierView → Kept
verifier_kept v = record { saved = v.saved; failures = v.failures; fails_next = v.told }

abbrev pub executor_kept : ExecutorView → Kept
executor_kept e = record { saved = e.saved; failures = e.failures; fails_next = e.told }

-- the next save is to fail
abbrev pub verifier_told : VerifierView → VerifierView
verifier_told v = record v { told = true }

abbrev pub executor_told : ExecutorView → ExecutorView
executor_told e = record e { told = true }

abbrev pub nothing_kept : Kept
nothing_kept = record { saved = None; failures = 0; fails_next = false }

-- a replica that is up stops
abbrev pub crashed_slot : {N : Type 0} → (N → Kept) → Slot N → Slot N
crashed_slot keeps (Up n) = Down (keeps n)
crashed_slot keeps (Down kept) = Down kept
crashed_slot keeps (Gone kept) = Gone kept

-- a replica is lost, up or down
abbrev pub lost_slot : {N : Type 0} → (N → Kept) → Slot N → Slot N
lost_slot keeps (Up n) = Gone (keeps n)
lost_slot keeps (Down kept) = Gone kept
lost_slot keeps (Gone kept) = Gone kept

-- the next save of a replica that is up is to fail
abbrev pub told_slot : {N : Type 0} → (N → N) → Slot N → Slot N
told_slot tells (Up n) = Up (tells n)
told_slot tells (Down kept) = Down kept
told_slot tells (Gone kept) = Gone kept

-- A replica stopped in a step, and what its keeper had is `old`: its record is the one before or the one after, whole.
pub record StopsIn (old : Kept) (after : Option (List ℕ)) (kept : Kept) : Type 0 where
  pub record_is : (kept.saved ≡ old.saved) ⊎ (kept.saved ≡ after)
  pub failures : CountsFailures old.failures old.fails_next kept.failures kept.fails_next

-- A verifier is given an input. It does the step, which it does not if that saves and the save is to fail; or, if the input fits a line, it stops, and nothing is sent.
abbrev pub VerifierSettles : Slot VerifierView → of_verifier.Input → Slot VerifierView → List (Letter Ballot) → Type 0
VerifierSettles (Up v) x now new =
    (IsTrue (not (v.told && (outcome v x).saves)) × (now ≡ Up (handled v x)) × (new ≡ (outcome v x).letters))
    ⊎ (IsTrue (fits_line v.state x) × ((kept : Kept) × (now ≡ Down kept) × (new ≡ []) × StopsIn (verifier_kept v) (record_after v (outcome v x)) kept))
VerifierSettles (Down kept) x now new = (now ≡ Down kept) × (new ≡ [])
VerifierSettles (Gone kept) x now new = (now ≡ Gone kept) × (new ≡ [])

-- An executor alike.
abbrev pub ExecutorSettles : Slot ExecutorView → of_executor.Input → Slot ExecutorView → List (Letter Body) → Type 0
ExecutorSettles (Up e) x now new =
    (IsTrue (not (e.told && (executor_outcome e x).saves)) × (now ≡ Up (executor_handled e x)) × (new ≡ (executor_outcome e x).letters))
    ⊎ (IsTrue (fits_a_line e.u e.id e.state x) × ((kept : Kept) × (now ≡ Down kept) × (new ≡ []) × StopsIn (executor_kept e) (executor_record_after e (executor_outcome e x)) kept))
ExecutorSettles (Down kept) x now new = (now ≡ Down kept) × (new ≡ [])
ExecutorSettles (Gone kept) x now new = (now ≡ Gone kept) × (new ≡ [])

-- the first record, if there was none
abbrev pub first_if_none : Option (List ℕ) → List ℕ → Option (List ℕ)
first_if_none None first = Some first
first_if_none (Some old) first = Some old

-- A verifier that is down is opened with its keeper: it is new, or goes on from its record; a new one is not, if its first save is to fail. Or it stays down, with its record, or with its first one if it had none.
abbrev pub VerifierReopens : ℕ → ℕ → Slot VerifierView → Slot VerifierView → List (Letter Ballot) → Type 0
VerifierReopens u id (Up v) now new = (now ≡ Up v) × (new ≡ [])
VerifierReopens u id (Down kept) now new =
    (IsTrue (not (kept.fails_next && is_none kept.saved)) × ((v : VerifierView) × (now ≡ Up v) × Opens u id kept.saved kept.failures kept.fails_next v new))
    ⊎ ((left : Kept) × (now ≡ Down left) × (new ≡ []) × StopsIn kept (first_if_none kept.saved (record_text u id (new_state u id))) left)
VerifierReopens u id (Gone kept) now new = (now ≡ Gone kept) × (new ≡ [])

-- An executor alike.
abbrev pub ExecutorReopens : ℕ → ℕ → Slot ExecutorView → Slot ExecutorView → List (Letter Body) → Type 0
ExecutorReopens u id (Up e) now new = (now ≡ Up e) × (new ≡ [])
ExecutorReopens u id (Down kept) now new =
    (IsTrue (not (kept.fails_next && is_none kept.saved)) × ((e : ExecutorView) × (now ≡ Up e) × OpensExecutor u id kept.saved kept.failures kept.fails_next e new))
    ⊎ ((left : Kept) × (now ≡ Down left) × (new ≡ []) × StopsIn kept (first_if_none kept.saved (executor_text u id new_executor)) left)
ExecutorReopens u id (Gone kept) now new = (now ≡ Gone kept) × (new ≡ [])
