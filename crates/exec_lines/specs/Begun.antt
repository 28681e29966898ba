-- How work begins and how it goes on at the end of a group, as functions of the work.
use Rattle.std.specs.Prelude.{ℕ, Bool, Option, Some, None, if◌then◌else◌}
use Rattle.batches.specs.declared.batch.Batch.{Batch}
use Rattle.states.specs.State.{StateView}
use Rattle.executor.specs.declared.work.Ended.{Ended}
use Rattle.executor.specs.declared.work.Ended.TheVariants.{On, Done}
use Rattle.executor.specs.Work.{WorkView, all_begun, started, tentative_of, is_group_done, least_of}

-- in the first group in which a request runs; if none runs the batch is done
abbrev pub begun_at : StateView → Batch → Bool → Option ℕ → Ended
begun_at base batch ordered None = Done (tentative_of (record { base = base; batch = batch; ordered = ordered; progress = started base batch ordered 0 }))
begun_at base batch ordered (Some group) = On (record { base = base; batch = batch; ordered = ordered; progress = started base batch ordered group })

-- what a batch begins with over its base
abbrev pub begin_of : StateView → Batch → Bool → Ended
begin_of base batch ordered = begun_at base batch ordered (least_of None None (all_begun base batch ordered))

-- the next group, or after the last one the end
abbrev pub moved_on : WorkView → Option ℕ → Ended
moved_on w None = Done (tentative_of w)
moved_on w (Some group) = On (record w { progress = record { items = w.progress.items; running = w.progress.running; group = group } })

-- how work goes on if its group may be done; if a step is left it stays
abbrev pub finish_of : WorkView → Ended
finish_of w = if is_group_done w.progress then moved_on w (least_of (Some w.progress.group) None w.progress.running) else On w
