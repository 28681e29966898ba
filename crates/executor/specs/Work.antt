-- A batch that is being executed.
use Rattle.std.specs.Prelude.{◌≡◌, ℕ, ◌+◌, ◌≤◌, List, [], ◌∷◌, ◌++◌, map, length, min, All, Bool, true, false, IsTrue, not, ◌||◌, ◌&&◌, ◌==◌, nat_le, nat_lt, Option, Some, None, slice_get, slice_set, refl}
use Rattle.std.specs.List.{list_all, list_any, zip, flat_map}
use Rattle.std.specs.Coded.{Coded, code_by, coded×, coded_list, coded_ℕ, coded_bool}
use Rattle.items.specs.Map.{Items, alive}
use Rattle.item_steps.specs.Effect.{effect}
use Rattle.item_steps.specs.Steps.{steps, reply}
use Rattle.item_steps.specs.Schedule.{stamped}
use Rattle.item_steps.specs.declared.step.Stamp.{Stamp}
use Rattle.item_steps.specs.declared.step.Step.{Step}
use Rattle.sessions.specs.declared.request.Request.{Request}
use Rattle.batches.specs.declared.batch.Batch.{Batch}
use Rattle.mixer.specs.Groups.{numbers_of}
use Rattle.executor.specs.declared.answered.Answered.{Answered}
use Rattle.executor.specs.BatchRequest.{BatchRequest, HaveFewSteps}
use Rattle.states.specs.State.{StateView}
use Rattle.executor.specs.Fresh.{Runner}
use Rattle.states.specs.Followed.{moment_of, state_after}
use Rattle.executor.specs.Round.{runners, first_place, group_in, kept_after}

-- What was done of a batch so far: the items now, the requests that run, and the group that runs now.
pub record Progress : Type 0 where
  pub items : Items
  pub running : List BatchRequest
  pub group : ℕ

-- a request that has not yet made a step, if the mixer gave these numbers
abbrev pub begun_in : Bool → List ℕ → Runner → BatchRequest
begun_in ordered numbers r = record { place = r.0; group = group_in ordered numbers r.0; steps = steps r.1.command; answers = [] }

abbrev pub begun : Batch → Bool → Runner → BatchRequest
begun batch ordered r = begun_in ordered (numbers_of batch.requests) r

-- the requests that run, before the first step
abbrev pub all_begun : StateView → Batch → Bool → List BatchRequest
all_begun base batch ordered = map (begun batch ordered) (runners base batch)

-- the step that comes next, if one is left
abbrev pub next_step : BatchRequest → Option Step
next_step r = slice_get r.steps (length r.answers)

abbrev pub is_complete : BatchRequest → Bool
is_complete r = nat_le (length r.steps) (length r.answers)

-- no request of the group has a step left
abbrev pub is_group_done : Progress → Bool
is_group_done w = list_all (λ r. not (r.group == w.group) || is_complete r) w.running

-- before the first step, in this group: what is due is dropped
abbrev pub started : StateView → Batch → Bool → ℕ → Progress
started base batch ordered group = record { items = alive base.items (moment_of base batch); running = all_begun base batch ordered; group = group }

-- no request runs in a group below this one
abbrev pub IsFirst : List BatchRequest → ℕ → Type 0
IsFirst running group = All (λ r. group ≤ r.group) running

-- whether the group comes after this one, or after none
abbrev pub comes_after : Option ℕ → ℕ → Bool
comes_after None group = true
comes_after (Some last) group = nat_lt last group

-- the first of the groups after this one in which a request runs
pub record IsNextGroup (running : List BatchRequest) (last : Option ℕ) (next : ℕ) : Type 0 where
  pub index : ℕ
  pub request : BatchRequest
  pub there : slice_get running index ≡ Some request
  pub its : request.group ≡ next
  pub above : comes_after last next ≡ true
  pub least : All (λ r. comes_after last r.group ≡ true → next ≤ r.group) running

-- the lesser of the least group that was found and this one, if this one comes after the last
abbrev pub lesser_if : Bool → Option ℕ → ℕ → Option ℕ
lesser_if false found group = found
lesser_if true None group = Some group
lesser_if true (Some least) group = Some (min least group)

abbrev pub lesser : Option ℕ → Option ℕ → ℕ → Option ℕ
lesser last found group = lesser_if (comes_after last group) found group

abbrev pub least_of : Option ℕ → Option ℕ → List BatchRequest → Option ℕ
least_of last found [] = found
least_of last found (r ∷ rs) = least_of last (lesser last found r.group) rs

-- no request runs in a group after this one
abbrev pub IsLast : List BatchRequest → Option ℕ → Type 0
IsLast running last = All (λ r. comes_after last r.group ≡ false) running

-- The next step of the request at the place was made; the group's first place is that of place 0.
pub record WorkStep (first : Stamp) (w : Progress) (place : ℕ) (now : Progress) : Type 0 where
  pub index : ℕ
  pub request : BatchRequest
  pub step : Step
  pub there : slice_get w.running index ≡ Some request
  pub its : request.place ≡ place
  pub in_group : request.group ≡ w.group
  pub next : next_step request ≡ Some step
  pub now_is : let e = effect w.items step (stamped first place) in
      now ≡ record { items = e.0; running = slice_set w.running index (record request { answers = request.answers ++ e.1 ∷ [] }); group = w.group }

-- The next step of a request was made on the items, at this place.
pub record StepDone (r : BatchRequest) (m : Items) (place : Stamp) (now : BatchRequest) (after : Items) : Type 0 where
  pub step : Step
  pub next : next_step r ≡ Some step
  pub items : after ≡ (effect m step place).0
  pub noted : now ≡ record r { answers = r.answers ++ (effect m step place).1 ∷ [] }

-- whether the request is the one at the place, in the group, and has a step left
abbrev pub is_ready : ℕ → ℕ → BatchRequest → Bool
is_ready group place r = (r.place == place) && ((r.group == group) && not (is_complete r))

-- the group that runs has a step at the place
abbrev pub HasStep : Progress → ℕ → Type 0
HasStep w place = IsTrue (list_any (is_ready w.group place) w.running)

-- the group that runs has no step at the place
abbrev pub HasNoStep : Progress → ℕ → Type 0
HasNoStep w place = list_all (λ r. not (is_ready w.group place r)) w.running ≡ true

-- What comes of a batch that was begun over its base, by steps and by ends of groups.
pub data Worked (base : StateView) (batch : Batch) (ordered : Bool) : Progress → Type 0 where
  began : (group : ℕ) → IsFirst (all_begun base batch ordered) group → Worked base batch ordered (started base batch ordered group)
  stepped : (w now : Progress) (place : ℕ) → Worked base batch ordered w → WorkStep (first_place base batch) w place now → Worked base batch ordered now
  moved : (w : Progress) (group : ℕ) → Worked base batch ordered w → IsTrue (is_group_done w) → IsNextGroup w.running (Some w.group) group → Worked base batch ordered (record { items = w.items; running = w.running; group = group })

-- what is answered to a request that made its steps
abbrev pub replied : Runner → BatchRequest → Answered
replied runner r = record { place = runner.0; client = runner.1.client; number = runner.1.number; reply = reply runner.1.command r.answers }

-- the same of the request at the place, if there is one
abbrev pub replied_to : BatchRequest → Option Request → List Answered
replied_to r None = []
replied_to r (Some request) = replied (r.place, request) r ∷ []

-- what is answered to each request that ran
abbrev pub replies_of : StateView → Batch → List BatchRequest → List Answered
replies_of base batch running = map (λ both. replied both.0 both.1) (zip (runners base batch) running)

-- the same from the requests of the batch, looked up by place
abbrev pub replied_at : List Request → BatchRequest → List Answered
replied_at requests r = replied_to r (slice_get requests r.place)

abbrev pub replies_to : List Request → List BatchRequest → List Answered
replies_to requests running = flat_map (replied_at requests) running

-- the state that the work made
abbrev pub state_made : StateView → Batch → Progress → StateView
state_made base batch w = state_after base batch (kept_after base.sessions (replies_of base batch w.running)) w.items

-- Work: a batch over its base, whether each request is a group by itself, and what was done so far.
pub record WorkView : Type 0 where
  pub base : StateView
  pub batch : Batch
  pub ordered : Bool
  pub progress : Progress

-- A tentative state: the state before it, the batch that led to it, and the replies to the requests that ran.
pub record TentativeView : Type 0 where
  pub before : StateView
  pub batch : Batch
  pub after : StateView
  pub replies : List Answered

-- what the work makes if nothing is left to do
abbrev pub tentative_of : WorkView → TentativeView
tentative_of w = record { before = w.base; batch = w.batch; after = state_made w.base w.batch w.progress; replies = replies_of w.base w.batch w.progress.running }

-- a tentative state is identified by what it holds
abbrev pub tentative_code : Coded StateView → Coded Batch → Coded Answered → Coded TentativeView
tentative_code state batch answered =
    code_by (((StateView × Batch) × StateView) × List Answered)
    (coded× (coded× (coded× state batch) state) (coded_list answered))
    (λ t. (((t.before, t.batch), t.after), t.replies))
    (λ p. record { before = p.0.0.0; batch = p.0.0.1; after = p.0.1; replies = p.1 })
    (λ _. refl)

-- A committed state, and the replies of the batch that led to it.
pub record CommittedView : Type 0 where
  pub state : StateView
  pub replies : List Answered

abbrev pub committed_code : Coded StateView → Coded Answered → Coded CommittedView
committed_code state answered =
    code_by (StateView × List Answered) (coded× state (coded_list answered)) (λ c. (c.state, c.replies)) (λ p. record { state = p.0; replies = p.1 }) (λ _. refl)

-- What all work keeps: it was begun over its base with the base's next batch, and went on by steps and ends of groups.
pub record IsWork (w : WorkView) : Type 0 where
  pub worked : Worked w.base w.batch w.ordered w.progress
  pub next : w.batch.n ≡ w.base.number + 1
  -- a group of its requests fits a round
  pub few : HaveFewSteps (all_begun w.base w.batch w.ordered)

-- work is identified by what it holds
abbrev pub work_code : Coded StateView → Coded Batch → Coded Items → Coded BatchRequest → Coded WorkView
work_code state batch items running =
    code_by (((((StateView × Batch) × Bool) × Items) × List BatchRequest) × ℕ)
    (coded× (coded× (coded× (coded× (coded× state batch) coded_bool) items) (coded_list running)) coded_ℕ)
    (λ w. (((((w.base, w.batch), w.ordered), w.progress.items), w.progress.running), w.progress.group))
    (λ p. record { base = p.0.0.0.0.0; batch = p.0.0.0.0.1; ordered = p.0.0.0.1; progress = record { items = p.0.0.1; running = p.0.1; group = p.1 } })
    (λ _. refl)
