-- What a batch has done so far is a beginning of a round.
use Rattle.std.proofs.Common.{◌≡◌, ℕ, ◌<◌, ◌≤◌, Bool, List, [], ◌++◌, map, length, take, get_or, Some, subst}
use Rattle.std.specs.Prelude.{slice_get, All, ◌==◌, if◌then◌else◌}
use Rattle.std.specs.List.{range_with_len}
use Rattle.std.proofs.lemmas.Option.{slice_get_within, get_or_from_slice_get, slice_get-get_or}
use Rattle.items.specs.Map.{Items, alive}
use Rattle.item_steps.specs.Schedule.{Placed, IsInterleaving, items_after, answers_in, answers_at}
use Rattle.item_steps.specs.declared.step.Stamp.{Stamp}
use Rattle.item_steps.specs.declared.step.Answer.{Answer}
use Rattle.batches.specs.declared.batch.Batch.{Batch}
use Rattle.executor.specs.BatchRequest.{BatchRequest}
use Rattle.states.specs.State.{StateView}
use Rattle.states.specs.Followed.{moment_of}
use Rattle.executor.specs.Round.{runners, first_place, steps_in, GroupsRun}
use Rattle.executor.specs.Work.{Progress, all_begun}

-- what holds of each member of a list
abbrev pub Each : {X : Type 0} → (X → Type 0) → List X → Type 0
Each {X} P xs = (i : ℕ) (x : X) → slice_get xs i ≡ Some x → P x

pub each-of-all : {X : Type 0} (P : X → Type 0) (xs : List X) → All P xs → Each P xs
each-of-all P xs all i x at = subst P (get_or_from_slice_get xs i x x at) (all i x (slice_get_within xs i x at))

pub all-of-each : {X : Type 0} (P : X → Type 0) (xs : List X) → Each P xs → All P xs
all-of-each P xs h i d l = h i (get_or xs i d) (slice_get-get_or xs i d l)

-- the steps that a request of the group has made
abbrev pub made_in : ℕ → BatchRequest → List Placed
made_in group r = if r.group == group then map (λ step. (r.place, step)) (take (length r.answers) r.steps) else []

abbrev pub forget : BatchRequest → BatchRequest
forget r = record { place = r.place; group = r.group; steps = r.steps; answers = [] }

module _ (base : StateView) (batch : Batch) (ordered : Bool) where
  abbrev pub first : Stamp
  first = first_place base batch

  abbrev pub groups_run : Items → List ℕ → Items → List (ℕ × Answer) → Type 0
  groups_run m groups now answers = GroupsRun (λ group. map (steps_in batch ordered group) (runners base batch)) first m groups now answers

  pub record Partial (w : Progress) : Type 0 where
    pub same : map forget w.running ≡ all_begun base batch ordered
    -- the items before the group that runs now, what was answered in the groups before it, and the order of its steps so far
    pub start : Items
    pub earlier : List (ℕ × Answer)
    pub order : List Placed
    pub groups : groups_run (alive base.items (moment_of base batch)) (range_with_len 0 w.group) start earlier
    pub items : w.items ≡ items_after first start order
    pub interleaves : IsInterleaving (map (made_in w.group) w.running) order
    pub answers : Each (λ r. r.answers ≡ answers_at r.place (earlier ++ answers_in first start order)) w.running
    pub above : Each (λ r. w.group < r.group → r.answers ≡ []) w.running
    pub below : Each (λ r. r.group < w.group → length r.steps ≤ length r.answers) w.running
    pub within : Each (λ r. length r.answers ≤ length r.steps) w.running
    pub places : (i j : ℕ) (r s : BatchRequest) → slice_get w.running i ≡ Some r → slice_get w.running j ≡ Some s → r.place ≡ s.place → i ≡ j
