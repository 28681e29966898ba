-- What every step keeps, and what a record gives back.
use Rattle.std.specs.Prelude.{◌≡◌, ℕ, ◌+◌, ◌≤◌, ◌<◌, ◌^◌, true, false, IsTrue, List, [], ◌∷◌, ◌++◌, length}
use Rattle.decrees.specs.declared.decree.Decree.{Decree}
use Rattle.decrees.specs.Standing.{may_follow, is_log_from}
use Rattle.decrees.specs.Start.{stands_from, could_stand}
use Rattle.verifier.specs.declared.input.Input.{Input}
use Rattle.verifier.specs.State.{VerifierState, known, stands, stays, down}
use Rattle.verifier.specs.Step.{step, fits_line}
use Rattle.verifier.specs.Record.{record_text, IsRecord}

-- an input that fits no line changes nothing, and is not answered
abbrev pub UnfitStays : Type 0
UnfitStays = (u id : ℕ) (s : VerifierState) (input : Input) → fits_line s input ≡ false → step u id s input ≡ stays s

-- what a step does with the start and the decrees after it
pub data LogStep (s t : VerifierState) : Type 0 where
  same : t.start ≡ s.start → t.log ≡ s.log → LogStep s t
  -- one decree more, that could come next
  learned : (d : Decree) → t.start ≡ s.start → t.log ≡ s.log ++ d ∷ [] → may_follow (stands s) d ≡ true → LogStep s t
  -- the first decrees are forgotten, and what they stood for is kept
  trimmed : (forgotten : List Decree) → s.log ≡ forgotten ++ t.log → t.start ≡ record { place = s.start.place + length forgotten; standing = stands_from s.start.standing forgotten } → LogStep s t
  -- it begins above what was known, at what could stand there
  gone : t.log ≡ [] → known s < t.start.place → could_stand t.start.place t.start.standing ≡ true → LogStep s t

abbrev pub LearnsInOrder : Type 0
LearnsInOrder = (u id : ℕ) (s : VerifierState) (input : Input) → LogStep s (step u id s input).state

-- each decree could come next where it stands
abbrev pub StaysALog : Type 0
StaysALog = (u id : ℕ) (s : VerifierState) (input : Input) → IsTrue (is_log_from s.start.standing s.log)
    → IsTrue (is_log_from (step u id s input).state.start.standing (step u id s input).state.log)

-- and the log begins at what could stand there
abbrev pub BeginsAsItCould : Type 0
BeginsAsItCould = (u id : ℕ) (s : VerifierState) (input : Input) → IsTrue (could_stand s.start.place s.start.standing) → IsTrue (is_log_from s.start.standing s.log)
    → IsTrue (could_stand (step u id s input).state.start.place (step u id s input).state.start.standing)

abbrev pub ViewNeverFalls : Type 0
ViewNeverFalls = (u id : ℕ) (s : VerifierState) (input : Input) → s.view ≤ (step u id s input).state.view

-- a step that saves nothing leaves what was saved
abbrev pub UnsavedStays : Type 0
UnsavedStays = (u id : ℕ) (s : VerifierState) (input : Input) → (step u id s input).saves ≡ false → down (step u id s input).state ≡ down s

-- what is saved can be read, and gives back what a crash leaves
abbrev pub SavedIsRecord : Type 0
SavedIsRecord = (u id : ℕ) (s : VerifierState) → IsTrue (could_stand s.start.place s.start.standing) → IsTrue (is_log_from s.start.standing s.log) → length s.log < 2 ^ 32 → known s + 1 < 2 ^ 64
    → IsRecord u id (record_text u id s) (down s)

-- and nothing else
abbrev pub OneState : Type 0
OneState = (u id : ℕ) (bytes : List ℕ) (s t : VerifierState) → IsRecord u id bytes s → IsRecord u id bytes t → s ≡ t
