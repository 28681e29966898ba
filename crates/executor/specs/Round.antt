-- What one batch makes of a state.
use Rattle.std.specs.Prelude.{◌≡◌, ℕ, ◌<◌, List, [], ◌∷◌, ◌++◌, map, fold, All, Bool, ◌==◌, slice_index, if◌then◌else◌}
use Rattle.std.specs.List.{range_with_len}
use Rattle.std.specs.FinMap as map_of
use Rattle.items.specs.Map.{Items, alive}
use Rattle.item_steps.specs.Steps.{steps, reply}
use Rattle.item_steps.specs.Schedule.{Placed, IsInterleaving, items_after, answers_in, answers_at}
use Rattle.item_steps.specs.declared.step.Stamp.{Stamp}
use Rattle.item_steps.specs.declared.step.Answer.{Answer}
use Rattle.sessions.specs.Fresh.{Replies}
use Rattle.batches.specs.declared.batch.Batch.{Batch}
use Rattle.batches.specs.Stamp.{first_stamp}
use Rattle.mixer.specs.Groups.{numbers_of}
use Rattle.wire.specs.Batch.{batch_text}
use Rattle.token.specs.Digest.{digest}
use Rattle.executor.specs.declared.answered.Answered.{Answered}
use Rattle.states.specs.State.{StateView, with_token}
use Rattle.states.specs.Followed.{moment_of, form_after}
use Rattle.executor.specs.Fresh.{Runner, runners_among}

-- the requests of the batch that run over a state
abbrev pub runners : StateView → Batch → List Runner
runners old batch = runners_among old.sessions batch.requests

-- if place 0 of the batch runs
abbrev pub first_place : StateView → Batch → Stamp
first_place old batch = record { moment = moment_of old batch; stamp = first_stamp batch.n }

-- the group of the request at the place: that of the mixer's numbers, or in an ordered batch one by itself, in batch order
abbrev pub group_in : Bool → List ℕ → ℕ → ℕ
group_in ordered numbers place = if ordered then place else slice_index numbers place

abbrev pub group_of : Batch → Bool → Runner → ℕ
group_of batch ordered r = group_in ordered (numbers_of batch.requests) r.0

-- the steps of each request that are in the group
abbrev pub steps_in : Batch → Bool → ℕ → Runner → List Placed
steps_in batch ordered group r = if group_of batch ordered r == group then map (λ step. (r.0, step)) (steps r.1.command) else []

-- So many groups, from this one on, run in order, the steps of each in some interleaving: the items after them, and all answers.
abbrev pub GroupsRun : (ℕ → List (List Placed)) → Stamp → Items → List ℕ → Items → List (ℕ × Answer) → Type 0
GroupsRun steps_of base m [] now answers = (now ≡ m) × (answers ≡ [])
GroupsRun steps_of base m (group ∷ groups) now answers = (order : List Placed) × (later : List (ℕ × Answer)) × IsInterleaving (steps_of group) order
    × GroupsRun steps_of base (items_after base m order) groups now later × (answers ≡ answers_in base m order ++ later)

-- what is answered to a request that ran
abbrev pub answered : List (ℕ × Answer) → Runner → Answered
answered answers r = record { place = r.0; client = r.1.client; number = r.1.number; reply = reply r.1.command (answers_at r.0 answers) }

-- the sessions that keep each reply
abbrev pub kept_after : Replies → List Answered → Replies
kept_after sessions replies = fold (λ s a. map_of.insert s a.client (record { number = a.number; reply = a.reply })) sessions replies

-- One batch makes new of old, with these replies, by place.
pub record Round (old : StateView) (batch : Batch) (ordered : Bool) (new : StateView) (replies : List Answered) : Type 0 where
  -- the groups in which requests run, and what was answered in them
  pub groups : ℕ
  pub all_run : All (λ r. group_of batch ordered r < groups) (runners old batch)
  pub answers : List (ℕ × Answer)
  pub run : GroupsRun (λ group. map (steps_in batch ordered group) (runners old batch)) (first_place old batch) (alive old.items (moment_of old batch)) (range_with_len 0 groups) new.items answers
  pub replied : replies ≡ map (answered answers) (runners old batch)
  pub sessions : new.sessions ≡ kept_after old.sessions replies
  pub moment : new.moment ≡ moment_of old batch
  -- what identifies the state
  pub form : new.form ≡ form_after old batch
  pub number : new.number ≡ batch.n
  pub previous : new.previous ≡ old.token
  pub epoch : new.epoch ≡ batch.epoch
  pub batch_is : new.batch ≡ digest (batch_text batch)
  pub token : new ≡ with_token new
