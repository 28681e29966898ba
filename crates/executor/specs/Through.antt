-- What is left of work, and what comes of work that is run to its end.
use Rattle.std.specs.Prelude.{◌≡◌, ℕ, ◌<◌, List, length, filter, Bool, true, false, IsTrue, IfSome, Option, Some, slice_get, nat_lt}
use Rattle.item_steps.specs.declared.step.Stamp.{Stamp}
use Rattle.batches.specs.declared.batch.Batch.{Batch}
use Rattle.executor.specs.declared.work.Ended.{Ended}
use Rattle.executor.specs.declared.work.Ended.TheVariants.{On, Done}
use Rattle.executor.specs.BatchRequest.{BatchRequest}
use Rattle.states.specs.State.{StateView}
use Rattle.executor.specs.Work.{Progress, TentativeView, Worked, WorkStep, IsLast, is_complete, is_group_done, tentative_of}

-- The request at the index is in the group that runs, and has a step left.
pub record IsReadyAt (w : Progress) (index : ℕ) : Type 0 where
  pub request : BatchRequest
  pub there : slice_get w.running index ≡ Some request
  pub in_group : request.group ≡ w.group
  pub more : is_complete request ≡ false

-- if there is a request, it is in another group or has no step left
abbrev pub IsNotLeft : ℕ → Option BatchRequest → Type 0
IsNotLeft group there = IfSome there (λ r. r.group ≡ group → is_complete r ≡ true)

-- The next step of the request at the index was made.
pub record WorkStepAt (first : Stamp) (w : Progress) (index : ℕ) (now : Progress) : Type 0 where
  pub place : ℕ
  pub made : WorkStep first w place now
  pub its : made.index ≡ index

-- The first request of the group, in batch order, that has a step left is at the place.
pub record IsFirstLeft (running : List BatchRequest) (group place : ℕ) : Type 0 where
  pub index : ℕ
  pub request : BatchRequest
  pub there : slice_get running index ≡ Some request
  pub its : request.place ≡ place
  pub in_group : request.group ≡ group
  pub more : is_complete request ≡ false
  pub earlier : (j : ℕ) → j < index → IsNotLeft group (slice_get running j)

-- how many requests run in the groups that come after this one
abbrev pub later : Progress → ℕ
later w = length (filter (λ r. nat_lt w.group r.group) w.running)

-- What work that was begun over the base comes to in the end, by some steps and ends of groups.
pub record ComesOfWork (base : StateView) (batch : Batch) (ordered : Bool) (t : TentativeView) : Type 0 where
  pub last : Progress
  pub worked : Worked base batch ordered last
  pub done : IsTrue (is_group_done last)
  pub ends : IsLast last.running (Some last.group)
  pub tentative : t ≡ tentative_of (record { base = base; batch = batch; ordered = ordered; progress = last })

-- what is done is made so
abbrev pub DoneComesOfWork : StateView → Batch → Bool → Ended → Type 0
DoneComesOfWork base batch ordered (On w) = Unit {0}
DoneComesOfWork base batch ordered (Done t) = ComesOfWork base batch ordered t
