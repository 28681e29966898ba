-- What a step of work comes to, as a function of the work and of the place.
use Rattle.std.specs.Prelude.{ℕ, ◌++◌, List, [], ◌∷◌, Option, Some, None, option_map, if◌then◌else◌}
use Rattle.items.specs.Map.{Items}
use Rattle.item_steps.specs.Effect.{effect}
use Rattle.item_steps.specs.Schedule.{stamped}
use Rattle.item_steps.specs.declared.step.Stamp.{Stamp}
use Rattle.item_steps.specs.declared.step.Step.{Step}
use Rattle.executor.specs.BatchRequest.{BatchRequest}
use Rattle.executor.specs.Round.{first_place}
use Rattle.executor.specs.Work.{WorkView, is_ready, next_step}

-- the items and the request after this step of it, if there is one
abbrev pub with_step : Stamp → Items → BatchRequest → Option Step → Items × BatchRequest
with_step at m r None = (m, r)
with_step at m r (Some step) =
    let e = effect m step at in
    (e.0, record r { answers = r.answers ++ e.1 ∷ [] })

-- the request that is ready at the place makes its next step; there may be none
abbrev pub step_in : Stamp → ℕ → ℕ → Items → List BatchRequest → Option (Items × List BatchRequest)
step_in first group place m [] = None
step_in first group place m (r ∷ rs) =
    if is_ready group place r then (let s = with_step (stamped first place) m r (next_step r) in Some (s.0, s.1 ∷ rs))
    else option_map (λ s. (s.0, r ∷ s.1)) (step_in first group place m rs)

-- the work after the next step at the place, if there is one in the group that runs
abbrev pub step_of : WorkView → ℕ → Option WorkView
step_of w place =
    option_map (λ s. record w { progress = record { items = s.0; running = s.1; group = w.progress.group } })
    (step_in (first_place w.base w.batch) w.progress.group place w.progress.items w.progress.running)
