-- An executor with its record.
use Rattle.std.specs.Prelude.{◌≡◌, ℕ, ◌-◌, ◌^◌, ◌⊎◌, Bool, true, IsTrue, List, [], Option, None, Some, Result, Ok, Err, if◌then◌else◌, refl}
use Rattle.std.specs.Coded.{Coded, code_by, coded×, coded_ℕ, coded_bool, coded_list, coded_option}
use Rattle.base.specs.declared.fault.Fault.{Fault}
use Rattle.wire.specs.Record.{Refused}
use Rattle.decrees.specs.declared.node.Letter.{Letter}
use Rattle.states.specs.declared.version.Version.{Version}
use Rattle.states.specs.declared.version.Version.TheVariants.{First}
use Rattle.exec_lines.specs.declared.body.Body.{Body}
use Rattle.exec_lines.specs.declared.input.Input.{Input}
use Rattle.exec_lines.specs.State.{ExecutorState, ExecutorOutcome, new_executor}
use Rattle.exec_lines.specs.Lines.{resumed}
use Rattle.exec_lines.specs.Step.{executor_step, IsCounted}
use Rattle.exec_lines.specs.Job.{JobView, RunsJob}
use Rattle.exec_lines.specs.Record.{executor_text}
use Rattle.exec_node.specs.Record.{IsExecutorRecordIn, IsReadRecord}

pub record ExecutorView : Type 0 where
  pub id : ℕ
  -- how many of 2u + 1 may fail
  pub u : ℕ
  pub state : ExecutorState
  -- whether it was not stopped
  pub up : Bool
  -- the record that its keeper has, and how many saves have failed
  pub saved : Option (List ℕ)
  pub failures : ℕ
  -- whether the keeper's next save is set to fail
  pub told : Bool

abbrev pub executor_outcome : ExecutorView → Input → ExecutorOutcome
executor_outcome e input = executor_step e.u e.id e.state input

-- the record after a step that is done
abbrev pub executor_record_after : ExecutorView → ExecutorOutcome → Option (List ℕ)
executor_record_after e o = if o.saves then Some (executor_text e.u e.id o.state) else e.saved

-- the executor after a step that is done
abbrev pub executor_handled : ExecutorView → Input → ExecutorView
executor_handled e input = record e { state = (executor_outcome e input).state; saved = executor_record_after e (executor_outcome e input) }

-- a counter is at its limit, or the step needs a save that could not be counted if it failed
abbrev pub IsExecutorAtLimit : ExecutorView → Input → Type 0
IsExecutorAtLimit e input = IsCounted e.state ⊎ (IsTrue (executor_outcome e input).saves × (e.failures ≡ 2 ^ 64 - 1))

-- an executor that was opened: new, or with the state of its record, which is saved as it is written today
abbrev pub OpensExecutor : ℕ → ℕ → Option (List ℕ) → ℕ → Bool → ExecutorView → List (Letter Body) → Type 0
OpensExecutor u id None failures told e letters =
    (e ≡ record { id = id; u = u; state = new_executor; up = true; saved = Some (executor_text u id new_executor); failures = failures; told = told }) × (letters ≡ [])
OpensExecutor u id (Some bytes) failures told e letters =
    (e ≡ record { id = id; u = u; state = e.state; up = true; saved = Some (executor_text u id e.state); failures = failures; told = told }) × IsReadRecord u id bytes e.state × (letters ≡ (resumed u id e.state).letters)

-- there is a record, and it is not one of this executor
abbrev pub IsNoExecutorRecord : ℕ → ℕ → Option (List ℕ) → Type 0
IsNoExecutorRecord u id None = ⊥
IsNoExecutorRecord u id (Some bytes) = (s : ExecutorState) → IsReadRecord u id bytes s → ⊥

-- there is a record of this executor, and by it no more decrees can be counted
abbrev pub IsCountedRecord : ℕ → ℕ → Option (List ℕ) → Type 0
IsCountedRecord u id None = ⊥
IsCountedRecord u id (Some bytes) = (s : ExecutorState) × IsReadRecord u id bytes s × (s.known ≡ 2 ^ 64 - 1)

-- there is no record, or one of version 1: what goes on from it is saved first
abbrev pub IsToBeSaved : ℕ → ℕ → Option (List ℕ) → Type 0
IsToBeSaved u id None = Unit {0}
IsToBeSaved u id (Some bytes) = (s : ExecutorState) × IsExecutorRecordIn First u id bytes s

-- what a keeper's record gives
abbrev pub StoredExecutor : ℕ → ℕ → Option (List ℕ) → Option (Result (Version × ExecutorState) Fault) → Type 0
StoredExecutor u id None None = Unit {0}
StoredExecutor u id None (Some r) = ⊥
StoredExecutor u id (Some bytes) None = ⊥
StoredExecutor u id (Some bytes) (Some (Ok p)) = IsExecutorRecordIn p.0 u id bytes p.1
StoredExecutor u id (Some bytes) (Some (Err fault)) = Refused fault ((s : ExecutorState) → IsReadRecord u id bytes s → ⊥)

-- an executor is identified by what it keeps
abbrev pub executor_view_code : Coded ExecutorState → Coded ExecutorView
executor_view_code state =
    code_by ((((((ℕ × ℕ) × ExecutorState) × Bool) × Option (List ℕ)) × ℕ) × Bool)
    (coded× (coded× (coded× (coded× (coded× (coded× coded_ℕ coded_ℕ) state) coded_bool) (coded_option (coded_list coded_ℕ))) coded_ℕ) coded_bool)
    (λ e. ((((((e.id, e.u), e.state), e.up), e.saved), e.failures), e.told))
    (λ p. record { id = p.0.0.0.0.0.0; u = p.0.0.0.0.0.1; state = p.0.0.0.0.1; up = p.0.0.0.1; saved = p.0.0.1; failures = p.0.1; told = p.1 })
    (λ _. refl)

-- A job was run: the executor after it, and all letters. It is the outcome of some steps and ends of groups, and if it is to be saved it was.
abbrev pub RanJob : ExecutorView → Option JobView → ExecutorView → List (Letter Body) → Type 0
RanJob e job now letters =
    (o : ExecutorOutcome) × RunsJob e.u e.id e.state job o × (now ≡ record e { state = o.state; saved = executor_record_after e o }) × (letters ≡ o.letters)
