-- What contracts see of a seat.
use Rattle.std.specs.Prelude.{◌≡◌, ℕ, ◌+◌, ◌%◌, ◌<◌, ◌^◌, ◌==◌, ◌&&◌, not, nat_le, nat_lt, Bool, true, List, [], ◌∷◌, ◌++◌, length, map, take, filter, if◌then◌else◌, Option, Some, None, slice_get}
use Rattle.std.specs.List.{list_any, list_all, range_with_len}
use Rattle.atomic_table.specs.Seated.{TableId}
use Rattle.atomic_table.specs.declared.shared.Seat.{Seat}
use Rattle.item_steps.specs.declared.step.Stamp.{Stamp}
use Rattle.item_steps.specs.declared.step.Step.{Step}
use Rattle.item_steps.specs.declared.step.Answer.{Answer}
use Rattle.item_steps.specs.declared.group.Task.{Task}
use Rattle.round.specs.declared.open.TheConstants.{MOST_CALLERS, MOST_TASKS, MOST_STEPS}
use Rattle.round.specs.declared.rule.Entry.{Entry}
use Rattle.round.specs.declared.rule.View.{View}
use Rattle.round.specs.Tickets.{name_view, name_of_caller, view_log}
use Rattle.pages.specs.Step.{step_page}

-- a request, and the answers to the steps that it made
pub record Running : Type 0 where
  pub task : Task
  pub answers : List Answer

-- a caller's seat: which of the callers it is, its requests, and the steps that it made, in order
pub record Sitting : Type 0 where
  pub caller : ℕ
  pub tasks : List Task
  pub log : List Entry

-- the requests from position n on whose position is the caller's, modulo the callers
abbrev pub dealt_from : ℕ → ℕ → ℕ → List Task → List Task
dealt_from n callers caller [] = []
dealt_from n callers caller (task ∷ tasks) =
    if n % callers == caller then task ∷ dealt_from (n + 1) callers caller tasks else dealt_from (n + 1) callers caller tasks

-- the requests of the group that a caller has
abbrev pub dealt : ℕ → ℕ → List Task → List Task
dealt callers caller group = dealt_from 0 callers caller group

-- a seat before its first step
abbrev pub seat_of : ℕ → List Task → ℕ → Sitting
seat_of callers group caller = record { caller = caller; tasks = dealt callers caller group; log = [] }

-- the seats of a round, in the order of their callers
abbrev pub seats_of : ℕ → List Task → List Sitting
seats_of callers group = map (seat_of callers group) (range_with_len 0 callers)

-- the steps of one request
abbrev pub log_at : ℕ → List Entry → List Entry
log_at place log = filter (λ e. e.place == place) log

abbrev pub steps_at : ℕ → List Entry → List Step
steps_at place log = map (λ e. e.step) (log_at place log)

-- and what they answered
abbrev pub answered_at : ℕ → List Entry → List Answer
answered_at place log = map (λ e. e.answer) (log_at place log)

-- a request as the log tells it
abbrev pub running_in : List Entry → Task → Running
running_in log task = record { task = task; answers = answered_at task.place log }

-- the requests of each caller, before their first step
abbrev pub lists_of : ℕ → List Task → List (List Running)
lists_of callers group = map (λ caller. map (running_in []) (dealt callers caller group)) (range_with_len 0 callers)

-- the step of a request that comes next, if one is left
abbrev pub next_of : Running → Option Step
next_of r = slice_get r.task.steps (length r.answers)

-- no step of the request is left
abbrev pub is_done : Running → Bool
is_done r = nat_le (length r.task.steps) (length r.answers)

-- whether the seat holds the request at the place
abbrev pub holds : Sitting → ℕ → Bool
holds s place = list_any (λ task. task.place == place) s.tasks

-- no step of the seat is left
abbrev pub has_ended : Sitting → Bool
has_ended s = list_all (λ task. is_done (running_in s.log task)) s.tasks

-- the request of the seat at the place has no step left
pub record IsAtEnd (s : Sitting) (place : ℕ) : Type 0 where
  pub index : ℕ
  pub task : Task
  pub there : slice_get s.tasks index ≡ Some task
  pub its : task.place ≡ place
  pub ended : next_of (running_in s.log task) ≡ None

-- The next step of the request at the place was made, in the page of its key, and the seat has it with its answer.
pub record SeatStep (s : Sitting) (place : ℕ) (now : Sitting) : Type 0 where
  pub index : ℕ
  pub task : Task
  pub entry : Entry
  pub there : slice_get s.tasks index ≡ Some task
  pub its : task.place ≡ place
  pub next : next_of (running_in s.log task) ≡ Some entry.step
  pub at : entry.place ≡ place
  pub by : entry.caller ≡ name_of_caller s.caller
  pub on : entry.page ≡ step_page entry.step
  pub noted : now ≡ record { caller = s.caller; tasks = s.tasks; log = s.log ++ entry ∷ [] }

-- no two requests have one place
abbrev pub are_apart : List Task → Bool
are_apart [] = true
are_apart (task ∷ tasks) = list_all (λ other. not (other.place == task.place)) tasks && are_apart tasks

-- at most so many steps, and a stamp below 2^64
abbrev pub task_fits : Stamp → Task → Bool
task_fits base task = nat_le (length task.steps) MOST_STEPS && nat_lt (base.stamp + task.place) (2 ^ 64)

-- requests that a round takes
abbrev pub group_fits : Stamp → List Task → Bool
group_fits base group = nat_le (length group) MOST_TASKS && (list_all (task_fits base) group && are_apart group)

-- some callers, not too many, and requests that a round takes
abbrev pub fits : Stamp → List Task → ℕ → Bool
fits base group callers = (nat_lt 0 callers && nat_le callers MOST_CALLERS) && group_fits base group

-- The steps in the log are of these requests, each request's first ones in their order.
pub record Follows (tasks : List Task) (log : List Entry) : Type 0 where
  pub first : (i : ℕ) (task : Task) → slice_get tasks i ≡ Some task → steps_at task.place log ≡ take (length (log_at task.place log)) task.steps
  pub no_others : (i : ℕ) (e : Entry) → slice_get log i ≡ Some e → (j : ℕ) × (task : Task) × (slice_get tasks j ≡ Some task) × (task.place ≡ e.place)

-- A seat of a round of the group: its caller has its requests, and made none but their steps.
pub record IsSitting (group : List Task) (callers : ℕ) (s : Sitting) : Type 0 where
  pub few : s.caller < callers
  pub has : s.tasks ≡ dealt callers s.caller group
  pub follows : Follows s.tasks s.log

-- The token is this caller's, who has its requests of the group, and knows its steps and their answers.
pub record IsSeated (table : TableId) (group : List Task) (callers : ℕ) (token : Seat ℕ View) (caller : ℕ) (running : List Running) : Type 0 where
  pub its_table : token.table_id ≡ table
  pub view : token.me ≡ (name_view (name_of_caller caller) (view_log token.me.0), [])
  pub few : caller < callers
  pub has : running ≡ map (running_in (view_log token.me.0)) (dealt callers caller group)
  pub follows : Follows (dealt callers caller group) (view_log token.me.0)
