-- What is seen of a slot from outside.
use Rattle.std.specs.Prelude.{◌≡◌, Bool, false, true, Option, None, Some}
use Rattle.exec_lines.specs.declared.shown.Report.{Report}
use Rattle.exec_lines.specs.declared.shown.NextWork.{NextWork}
use Rattle.exec_lines.specs.Shown.{report_of, ComesNext}
use Rattle.exec_node.specs.Executor.{ExecutorView}
use Rattle.verifier.specs.State.{known}
use Rattle.verifier.specs.Verifier.{VerifierView}
use Rattle.slots.specs.Slot.{Slot}
use Rattle.slots.specs.declared.slot.Slot.TheVariants as slot
use Rattle.slots.specs.declared.status.Status.{Status}
use Rattle.slots.specs.declared.status.Status.TheVariants as status
use Rattle.slots.specs.declared.status.VerifierReport.{VerifierReport}
use Rattle.keeper.specs.Kept.{Kept}

abbrev pub status_of : {N R : Type 0} → (N → R) → Slot N → Status R
status_of report (slot.Up n) = status.Up (report n)
status_of report (slot.Down kept) = status.Down
status_of report (slot.Gone kept) = status.Lost

-- what is there, if it is up
abbrev pub node_at : {N : Type 0} → Slot N → Option N
node_at (slot.Up n) = Some n
node_at (slot.Down kept) = None
node_at (slot.Gone kept) = None

abbrev pub executor_report : ExecutorView → Report
executor_report e = report_of e.state

abbrev pub verifier_report : VerifierView → VerifierReport
verifier_report v = record { decrees = known v.state; view = v.state.view }

-- what comes next of the work of an executor, if it is up and has work
abbrev pub WaitsFor : Slot ExecutorView → Option NextWork → Type 0
WaitsFor (slot.Up e) next = ComesNext e.state.work next
WaitsFor (slot.Down kept) next = next ≡ None
WaitsFor (slot.Gone kept) next = next ≡ None

-- what the keeper of a replica has, whether it is up, down or lost
abbrev pub kept_at : {N : Type 0} → (N → Kept) → Slot N → Kept
kept_at keeps (slot.Up n) = keeps n
kept_at keeps (slot.Down kept) = kept
kept_at keeps (slot.Gone kept) = kept

-- it is lost for good
abbrev pub is_gone : {N : Type 0} → Option (Slot N) → Bool
is_gone None = false
is_gone (Some (slot.Up n)) = false
is_gone (Some (slot.Down kept)) = false
is_gone (Some (slot.Gone kept)) = true
