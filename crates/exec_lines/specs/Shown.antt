-- What an executor shows of itself.
use Rattle.std.specs.Prelude.{◌≡◌, ℕ, ◌<◌, IsTrue, Option, None, Some, length}
use Rattle.executor.specs.Work.{Progress, WorkView, HasStep, HasNoStep, is_group_done}
use Rattle.exec_lines.specs.declared.shown.Report.{Report}
use Rattle.exec_lines.specs.declared.shown.NextWork.{NextWork}
use Rattle.exec_lines.specs.declared.shown.NextWork.TheVariants.{Step, Finish}
use Rattle.exec_lines.specs.State.{ExecutorState}

abbrev pub report_of : ExecutorState → Report
report_of s = record { number = s.chain.have.number; epoch = s.standing.epoch; chain = length s.chain.members }

-- the lowest place of the group that runs at which a step is left
pub record IsLowestStep (w : Progress) (place : ℕ) : Type 0 where
  pub has : HasStep w place
  pub lowest : (lower : ℕ) → lower < place → HasNoStep w lower

abbrev pub ComesNextOf : WorkView → Option NextWork → Type 0
ComesNextOf w None = ⊥
ComesNextOf w (Some (Step place)) = IsLowestStep w.progress place
ComesNextOf w (Some Finish) = IsTrue (is_group_done w.progress)

-- what comes next of the work, if there is work
abbrev pub ComesNext : Option WorkView → Option NextWork → Type 0
ComesNext None next = next ≡ None
ComesNext (Some w) next = ComesNextOf w next
