-- What every step keeps, and what a record gives back.
use Rattle.std.specs.Prelude.{◌≡◌, ℕ, ◌≤◌, Bool, true, false, IfSome, List, [], ◌∷◌, ◌++◌, length, Some}
use Rattle.states.specs.State.{IsState}
use Rattle.decrees.specs.declared.node.Letter.{Letter}
use Rattle.executor.specs.Work.{TentativeView, WorkView, IsWork}
use Rattle.executor.specs.GroupRun.{is_untouched}
use Rattle.executor.specs.Kept.{IsTentative}
use Rattle.rollback.specs.declared.chain.TheConstants.{MOST_MEMBERS}
use Rattle.rollback.specs.Chain.{ChainView, chain_tip, IsRecorded}
use Rattle.exec_lines.specs.declared.body.Body.{Body}
use Rattle.exec_lines.specs.declared.input.Input.{Input}
use Rattle.exec_lines.specs.declared.input.Input.TheVariants as input
use Rattle.exec_lines.specs.State.{ExecutorState, IsExecutor, unchanged, after_crash}
use Rattle.exec_lines.specs.Step.{executor_step, fits_a_line}
use Rattle.exec_lines.specs.Record.{executor_text}
use Rattle.exec_lines.specs.Job.{job_of}
use Rattle.exec_node.specs.Record.{IsExecutorRecord, IsReadRecord}
use Rattle.exec_node.specs.Executor.{ExecutorView, executor_handled, executor_outcome, RanJob}

-- an input that fits no line changes nothing, and is not answered
abbrev pub UnfitInputStays : Type 0
UnfitInputStays = (u id : ℕ) (s : ExecutorState) (input : Input) → fits_a_line u id s input ≡ false → executor_step u id s input ≡ unchanged s

-- a step that saves nothing leaves what was saved
abbrev pub UnsavedExecutorStays : Type 0
UnsavedExecutorStays = (u id : ℕ) (s : ExecutorState) (input : Input) → (executor_step u id s input).saves ≡ false → after_crash (executor_step u id s input).state ≡ after_crash s

-- what is saved can be read, and gives back what a crash leaves
abbrev pub SavedIsExecutorRecord : Type 0
SavedIsExecutorRecord = (u id : ℕ) (s : ExecutorState) → 1 ≤ s.standing.epoch → IsRecorded s.chain → IsExecutorRecord u id (executor_text u id s) (after_crash s)

-- and nothing else, in whichever version it is read
abbrev pub OneExecutorState : Type 0
OneExecutorState = (u id : ℕ) (bytes : List ℕ) (s t : ExecutorState) → IsReadRecord u id bytes s → IsReadRecord u id bytes t → s ≡ t

-- what a record that is read gives can be written, and is read again
abbrev pub OldRecordsAreRenewed : Type 0
OldRecordsAreRenewed = (u id : ℕ) (bytes : List ℕ) (s : ExecutorState) → IsReadRecord u id bytes s → IsExecutorRecord u id (executor_text u id s) s

-- a tentative state is handed in
abbrev pub hands_in : Input → Bool
hands_in (input.Letter l) = false
hands_in (input.Cut moment) = false
hands_in (input.Step place) = false
hands_in input.Finish = false
hands_in (input.Adopt t) = true

abbrev pub AreTentative : List TentativeView → Type 0
AreTentative [] = Unit {0}
AreTentative (t ∷ ts) = IsTentative t × AreTentative ts

-- what the types of a chain's states keep
pub record AreStates (c : ChainView) : Type 0 where
  pub have : IsState c.have
  pub few : length c.members ≤ MOST_MEMBERS
  pub members : AreTentative c.members

-- the chain can be read back from its record, and what is executed is over just its tip
pub record IsLinkedExecutor (s : ExecutorState) : Type 0 where
  pub chain : IsRecorded s.chain
  pub over : IfSome s.work (λ w. w.base ≡ chain_tip s.chain)

-- so it stays, whatever is done, but for a tentative state that is handed in: its base is identified by number and token alone
abbrev pub LinkedStays : Type 0
LinkedStays = (u id : ℕ) (s : ExecutorState) (input : Input) → hands_in input ≡ false → IsExecutor s → IsLinkedExecutor s → AreStates (executor_step u id s input).state.chain → IsLinkedExecutor (executor_step u id s input).state

-- an input by which an executor gets on with its work
abbrev pub gets_on : Input → Bool
gets_on (input.Letter l) = false
gets_on (input.Cut moment) = false
gets_on (input.Step place) = true
gets_on input.Finish = true
gets_on (input.Adopt t) = false

-- Steps and ends of groups, handed in one after the other: the executor after them, and all letters.
pub data Plays (e : ExecutorView) : List Input → ExecutorView → List (Letter Body) → Type 0 where
  none : Plays e [] e []
  more : (inputs : List Input) (now : ExecutorView) (letters : List (Letter Body)) (next : Input) → gets_on next ≡ true → Plays e inputs now letters
      → Plays e (inputs ++ next ∷ []) (executor_handled now next) (letters ++ (executor_outcome now next).letters)

-- a job that was run leaves just what some of these leave, handed in one by one
abbrev pub RunIsPlayed : Type 0
RunIsPlayed = (e now : ExecutorView) (w : WorkView) (letters : List (Letter Body)) → e.state.work ≡ Some w → IsWork w → is_untouched w.progress ≡ true → RanJob e (job_of e.state.work) now letters
    → (inputs : List Input) × Plays e inputs now letters
