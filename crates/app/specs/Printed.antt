-- What is printed of a world, a line a node, and of a fault.
use Rattle.std.specs.Prelude.{ℕ, ◌+◌, List, [], ◌∷◌, ◌++◌, length, if◌then◌else◌, codes, decimal}
use Rattle.exec_lines.specs.declared.shown.Report.{Report}
use Rattle.exec_node.specs.Executor.{ExecutorView}
use Rattle.verifier.specs.Verifier.{VerifierView}
use Rattle.schedules.specs.declared.fault.ScheduleFault.{ScheduleFault}
use Rattle.schedules.specs.declared.fault.ScheduleFault.TheVariants.{NoMemory, BadSchedule}
use Rattle.schedules.specs.Escape.{printed_text}
use Rattle.slots.specs.Slot.{Slot}
use Rattle.slots.specs.declared.status.Status.{Status}
use Rattle.slots.specs.declared.status.Status.TheVariants.{Up, Down, Lost}
use Rattle.slots.specs.declared.status.VerifierReport.{VerifierReport}
use Rattle.worlds.specs.Clients.{ClientSlot, is_client_open}
use Rattle.slots.specs.Status.{status_of, executor_report, verifier_report}
use Rattle.worlds.specs.World.{WorldView}

-- a space and the bytes, if there are any
abbrev pub given_part : List ℕ → List ℕ
given_part [] = []
given_part (b ∷ bs) = codes " " ++ printed_text (b ∷ bs)

-- whether what it sends is still taken, how many bytes it was given, and which
abbrev pub client_line : ℕ → ClientSlot → List ℕ
client_line number slot =
    codes "client " ++ decimal number ++ (if is_client_open slot then codes " open " else codes " closed ")
    ++ decimal (length slot.given) ++ given_part slot.given ++ 10 ∷ []

abbrev pub executor_status : Status Report → List ℕ
executor_status (Up report) = codes " up n " ++ decimal report.number ++ codes " epoch " ++ decimal report.epoch ++ codes " chain " ++ decimal report.chain
executor_status Down = codes " down"
executor_status Lost = codes " lost"

abbrev pub executor_line : ℕ → Slot ExecutorView → List ℕ
executor_line id slot = codes "executor " ++ decimal id ++ executor_status (status_of executor_report slot) ++ 10 ∷ []

abbrev pub verifier_status : Status VerifierReport → List ℕ
verifier_status (Up report) = codes " up decrees " ++ decimal report.decrees ++ codes " view " ++ decimal report.view
verifier_status Down = codes " down"
verifier_status Lost = codes " lost"

abbrev pub verifier_line : ℕ → Slot VerifierView → List ℕ
verifier_line id slot = codes "verifier " ++ decimal id ++ verifier_status (status_of verifier_report slot) ++ 10 ∷ []

-- a line for each, by its number; the first has this one
abbrev pub lines_from : {N : Type 0} → (ℕ → N → List ℕ) → ℕ → List N → List ℕ
lines_from line number [] = []
lines_from line number (x ∷ xs) = line number x ++ lines_from line (number + 1) xs

-- clients are numbered from 1, replicas from 0
abbrev pub world_text : WorldView → List ℕ
world_text w = lines_from client_line 1 w.clients ++ lines_from executor_line 0 w.executors ++ lines_from verifier_line 0 w.verifiers

-- ---- faults

abbrev pub refusal_text : ScheduleFault → List ℕ
refusal_text NoMemory = codes "refused: 1 NoMemory" ++ 10 ∷ []
refusal_text (BadSchedule line) = codes "refused: 6 BadSchedule line " ++ decimal line ++ 10 ∷ []

abbrev pub unread_text : List ℕ → List ℕ
unread_text name = codes "cannot read " ++ name ++ 10 ∷ []
