-- A job that an executor runs where it is.
use Rattle.std.specs.Prelude.{◌≡◌, ◌⊎◌, true, false, IfSome, List, [], ◌∷◌, ◌++◌, None, Some}
use Rattle.keeper.specs.Kept.{Kept, CountsFailures}
use Rattle.decrees.specs.declared.node.Letter.{Letter}
use Rattle.executor.specs.Work.{IsWork}
use Rattle.exec_lines.specs.declared.body.Body.{Body}
use Rattle.exec_lines.specs.declared.input.Input.{Input}
use Rattle.exec_lines.specs.declared.shown.NextWork.{NextWork}
use Rattle.exec_lines.specs.Shown.{ComesNext}
use Rattle.exec_lines.specs.Job.{job_of}
use Rattle.exec_node.specs.Executor.{ExecutorView, RanJob}
use Rattle.exec_node.specs.Laws.{gets_on}
use Rattle.slots.specs.Slot.{Slot}
use Rattle.slots.specs.declared.slot.Slot.TheVariants.{Up, Down, Gone}
use Rattle.slots.specs.Slots.{ExecutorSettles}

-- The job, if there is one, was run, and the record saved. So no save was to fail, or there was no job.
pub record ExecutorRan (e now : ExecutorView) (letters : List (Letter Body)) : Type 0 where
  pub works : IfSome e.state.work IsWork
  pub untold : (e.told ≡ false) ⊎ (job_of e.state.work ≡ None)
  pub ran : RanJob e (job_of e.state.work) now letters

-- The executor stopped, with the record that it had: something of its work was left to be done.
pub record RunStops (e : ExecutorView) (kept : Kept) : Type 0 where
  pub next : NextWork
  pub left : ComesNext e.state.work (Some next)
  pub same : kept.saved ≡ e.saved
  pub failures : CountsFailures e.failures e.told kept.failures kept.fails_next

-- An executor runs its job, if it has one; or it stops, and nothing is sent.
abbrev pub ExecutorRuns : Slot ExecutorView → Slot ExecutorView → List (Letter Body) → Type 0
ExecutorRuns (Up e) now new =
    ((after : ExecutorView) × ExecutorRan e after new × (now ≡ Up after))
    ⊎ ((kept : Kept) × RunStops e kept × (now ≡ Down kept) × (new ≡ []))
ExecutorRuns (Down kept) now new = (now ≡ Down kept) × (new ≡ [])
ExecutorRuns (Gone kept) now new = (now ≡ Gone kept) × (new ≡ [])

-- these inputs are given to an executor, one after the other
abbrev pub ExecutorSettlesAll : Slot ExecutorView → List Input → Slot ExecutorView → List (Letter Body) → Type 0
ExecutorSettlesAll s [] now new = (now ≡ s) × (new ≡ [])
ExecutorSettlesAll s (x ∷ xs) now new =
    (next : Slot ExecutorView) × (first later : List (Letter Body)) × ExecutorSettles s x next first × ExecutorSettlesAll next xs now later × (new ≡ first ++ later)

-- each of them is a step or the end of a group
abbrev pub AllGetOn : List Input → Type 0
AllGetOn [] = Unit {0}
AllGetOn (x ∷ xs) = (gets_on x ≡ true) × AllGetOn xs

-- a job that was run leaves what some steps and ends of groups leave
abbrev pub RunIsSteps : Type 0
RunIsSteps = (s now : Slot ExecutorView) (new : List (Letter Body)) → ExecutorRuns s now new → (inputs : List Input) × AllGetOn inputs × ExecutorSettlesAll s inputs now new
