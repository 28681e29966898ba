-- How work begins, and how it goes on at the end of a group.
use Rattle.std.specs.Prelude.{◌≡◌, [], Bool, true, false, IsTrue, Some, None}
use Rattle.batches.specs.declared.batch.Batch.{Batch}
use Rattle.executor.specs.declared.work.Ended.{Ended}
use Rattle.executor.specs.declared.work.Ended.TheVariants.{On, Done}
use Rattle.states.specs.State.{StateView}
use Rattle.executor.specs.Round.{Round}
use Rattle.executor.specs.Work.{WorkView, all_begun, started, is_group_done, IsNextGroup, IsLast, tentative_of}

-- What a batch begins with: work in its first group; if no request runs, it is done at once.
abbrev pub Begins : StateView → Batch → Bool → Ended → Type 0
Begins base batch ordered (On w) =
    (w ≡ record { base = base; batch = batch; ordered = ordered; progress = started base batch ordered w.progress.group }) × IsNextGroup (all_begun base batch ordered) None w.progress.group
Begins base batch ordered (Done t) =
    (all_begun base batch ordered ≡ []) × (t ≡ tentative_of (record { base = base; batch = batch; ordered = ordered; progress = started base batch ordered 0 }))

-- the next group in which a request runs, if the group is done; else the work stays
abbrev pub MovesOn : Bool → WorkView → WorkView → Type 0
MovesOn false w now = now ≡ w
MovesOn true w now =
    IsNextGroup w.progress.running (Some w.progress.group) now.progress.group
    × (now ≡ record w { progress = record { items = w.progress.items; running = w.progress.running; group = now.progress.group } })

-- How work goes on at the end of a group: to the next one, or after the last one it is done.
abbrev pub Goes : WorkView → Ended → Type 0
Goes w (On now) = MovesOn (is_group_done w.progress) w now
Goes w (Done t) = IsTrue (is_group_done w.progress) × IsLast w.progress.running (Some w.progress.group) × (t ≡ tentative_of w)

-- what is done is a round of the base and the batch
abbrev pub DoneIsRound : StateView → Batch → Bool → Ended → Type 0
DoneIsRound base batch ordered (On w) = Unit {0}
DoneIsRound base batch ordered (Done t) = Round base batch ordered t.after t.replies
