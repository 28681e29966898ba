-- What the executors wait for, if no letter comes.
use Rattle.std.specs.Prelude.{◌≡◌, ℕ, ◌<◌, List, Option, None, Some, slice_get}
use Rattle.exec_lines.specs.declared.shown.NextWork.{NextWork}
use Rattle.exec_lines.specs.declared.shown.NextWork.TheVariants as next_work
use Rattle.exec_node.specs.Executor.{ExecutorView}
use Rattle.events.specs.declared.event.Event.{Event}
use Rattle.events.specs.declared.event.Event.TheVariants.{Step, Finish}
use Rattle.slots.specs.Slot.{Slot}
use Rattle.slots.specs.Status.{WaitsFor}

abbrev pub work_event : ℕ → NextWork → Event
work_event id (next_work.Step place) = Step id place
work_event id next_work.Finish = Finish id

-- the slot, if it is there, has no executor that is up and has work
abbrev pub HasNoWork : Option (Slot ExecutorView) → Type 0
HasNoWork None = Unit {0}
HasNoWork (Some slot) = WaitsFor slot None

-- the event is what comes next of the work there
abbrev pub IsWorkOf : Option (Slot ExecutorView) → ℕ → Event → Type 0
IsWorkOf None id event = ⊥
IsWorkOf (Some slot) id event = (next : NextWork) × WaitsFor slot (Some next) × (event ≡ work_event id next)

-- what comes next of the work there, if an executor is there that is up and has work
abbrev pub ComesOf : Option (Slot ExecutorView) → ℕ → Option Event → Type 0
ComesOf slot id None = HasNoWork slot
ComesOf slot id (Some event) = IsWorkOf slot id event

-- the event is what comes next of the work of the lowest executor that is up and has work, if one has
abbrev pub IsNextWork : List (Slot ExecutorView) → Option Event → Type 0
IsNextWork executors None = (id : ℕ) → HasNoWork (slice_get executors id)
IsNextWork executors (Some event) = (id : ℕ) × ((lower : ℕ) → lower < id → HasNoWork (slice_get executors lower)) × IsWorkOf (slice_get executors id) id event
