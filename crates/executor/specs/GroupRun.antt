-- A group that runs as a round.
use Rattle.std.specs.Prelude.{◌≡◌, ℕ, List, [], ◌∷◌, length, map, filter, Bool, ◌==◌, if◌then◌else◌, All}
use Rattle.std.specs.List.{list_all}
use Rattle.item_steps.specs.declared.group.Task.{Task}
use Rattle.item_steps.specs.declared.step.Answer.{Answer}
use Rattle.executor.specs.declared.work.Ended.{Ended}
use Rattle.executor.specs.declared.work.Ended.TheVariants.{On, Done}
use Rattle.executor.specs.BatchRequest.{BatchRequest}
use Rattle.executor.specs.Work.{Progress}
use Rattle.round.specs.Sittings.{Running as Ran}

-- the request as a round takes it
abbrev pub task_of_request : BatchRequest → Task
task_of_request r = record { place = r.place; steps = r.steps }

-- the same, if it is in the group
abbrev pub task_at : ℕ → BatchRequest → List Task
task_at group r = if r.group == group then task_of_request r ∷ [] else []

-- the requests of the group, in batch order
abbrev pub tasks_in : ℕ → List BatchRequest → List Task
tasks_in group running = map task_of_request (filter (λ r. r.group == group) running)

-- a request whose steps were taken, if it is in the group
abbrev pub emptied : ℕ → BatchRequest → BatchRequest
emptied group r = if r.group == group then record r { steps = [] } else r

-- a request with its answers, if it is in the group
abbrev pub answered_by : ℕ → (Task → List Answer) → BatchRequest → BatchRequest
answered_by group answers_to r = if r.group == group then record r { answers = answers_to (task_of_request r) } else r

-- a request that ran in a round, with its answers
abbrev pub ran_of : (Task → List Answer) → Task → Ran
ran_of answers_to task = record { task = task; answers = answers_to task }

-- no step was made
abbrev pub is_untouched : Progress → Bool
is_untouched w = list_all (λ r. length r.answers == 0) w.running

-- no step of the group that runs was made
abbrev pub IsUntouched : Progress → Type 0
IsUntouched w = All (λ r. r.group ≡ w.group → r.answers ≡ []) w.running

-- if work goes on, it does so in a group of which no step was made
abbrev pub StartsAfresh : Ended → Type 0
StartsAfresh (On w) = IsUntouched w.progress
StartsAfresh (Done t) = Unit {0}
