-- What the steps of a page answered, one after the other.
use Rattle.std.specs.Prelude.{◌≡◌, ℕ, List, [], map}
use Rattle.std.specs.List.{AllByRecursion}
use Rattle.atomic_table.specs.Seated.{TableId}
use Rattle.items.specs.Map.{Items}
use Rattle.item_steps.specs.Schedule.{stamped, PageHistory}
use Rattle.item_steps.specs.declared.step.Stamp.{Stamp}
use Rattle.item_steps.specs.declared.step.Step.{Step}
use Rattle.pages.specs.Step.{step_page}
use Rattle.round.specs.declared.rule.Entry.{Entry}

-- the name of no table
abbrev pub no_table : TableId
no_table = record { words = 0; slots = 0; views_name = 0; atom = 0; block = 0; offset = 0; slot_names = [] }

-- a step with the moment and the stamp at which it runs
abbrev pub timed : Stamp → Entry → Step × Stamp
timed base e = (e.step, stamped base e.place)

-- The log is of steps of this page alone, which in its order lead from one state of the page to the other, and answered what the log has.
pub record IsRoundHistory (base : Stamp) (number : ℕ) (start : Items) (log : List Entry) (now : Items) : Type 0 where
  pub own : AllByRecursion (λ e. (e.page ≡ number) × (step_page e.step ≡ number)) log
  pub runs : PageHistory start (map (timed base) log) now (map (λ e. e.answer) log)
