-- Rounds are lists of lines.
use Rattle.std.proofs.Common.{◌≡◌, ℕ, ◌+◌, List, [], ◌∷◌, ◌++◌, map, refl, sym, ap, subst}
use Rattle.std.specs.List.{range_with_len}
use Rattle.std.proofs.Math.Nat.{le-max_right}
use Rattle.items.specs.Map.{Items, alive}
use Rattle.item_steps.specs.Effect.{effect}
use Rattle.item_steps.specs.Schedule.{Placed, stamped, items_after}
use Rattle.item_steps.specs.declared.step.Stamp.{Stamp}
use Rattle.item_steps.specs.declared.step.Answer.{Answer}
use Rattle.states.specs.State.{StateView, initial_state}
use Rattle.states.specs.Followed.{moment_of}
use Rattle.executor.specs.Round.{runners, first_place, steps_in, GroupsRun}
use Rattle.run_laws.specs.Run.{Executed, IsRunFrom}
use Rattle.memcached_spec.specs.Server.{Server, Line, Tick, Do, Leads, new_server, ticked, server_stepped}
use Rattle.linear_laws.specs.Laws.{seen, last_of, RoundIsOneList, RunIsOneList, ListGoesOn}

abbrev pub at : Items → ℕ → Server
at m moment = record { items = m; moment = moment }

-- the step of the request at a place, whose client `who` tells
abbrev pub line_of : (ℕ → ℕ) → Stamp → Items → Placed → Line
line_of who base m s = Do (record { client = who s.0; step = s.1; unique = base.stamp + s.0; answer = (effect m s.1 (stamped base s.0)).1 })

abbrev pub lines_in : (ℕ → ℕ) → Stamp → Items → List Placed → List Line
lines_in who base m [] = []
lines_in who base m (s ∷ order) = line_of who base m s ∷ lines_in who base (effect m s.1 (stamped base s.0)).0 order

pub leads_on : (xs ys : List Line) (s t v : Server) → Leads s xs t → Leads t ys v → Leads s (xs ++ ys) v
leads_on [] ys s t v h k = subst (λ (x : Server). Leads x ys v) (sym h) k
leads_on (Tick now ∷ xs) ys s t v h k = (h.0, leads_on xs ys (ticked s now) t v h.1 k)
leads_on (Do d ∷ xs) ys s t v h k = (h.0, leads_on xs ys (server_stepped s d) t v h.1 k)

pub order_leads : (who : ℕ → ℕ) (base : Stamp) (m : Items) (order : List Placed) → Leads (at m base.moment) (lines_in who base m order) (at (items_after base m order) base.moment)
order_leads who base m [] = refl
order_leads who base m (s ∷ order) = (refl, order_leads who base (effect m s.1 (stamped base s.0)).0 order)

groups_lead : (who : ℕ → ℕ) (f : ℕ → List (List Placed)) (base : Stamp) (m : Items) (groups : List ℕ) (now : Items) (answers : List (ℕ × Answer)) → GroupsRun f base m groups now answers
    → (lines : List Line) × Leads (at m base.moment) lines (at now base.moment)
groups_lead who f base m [] now answers run = ([], ap (λ (x : Items). at x base.moment) (sym run.0))
groups_lead who f base m (g ∷ groups) now answers run =
    let rest = groups_lead who f base (items_after base m run.0) groups now run.1 run.3 in
    (lines_in who base m run.0 ++ rest.0, leads_on (lines_in who base m run.0) rest.0 (at m base.moment) (at (items_after base m run.0) base.moment) (at now base.moment) (order_leads who base m run.0) rest.1)

pub round_is_one_list : RoundIsOneList
round_is_one_list old e over =
    let round = over.round in
    let start = alive old.items (moment_of old e.batch) in
    let groups = groups_lead (λ place. place) (λ group. map (steps_in e.batch e.ordered group) (runners old e.batch)) (first_place old e.batch) start (range_with_len 0 round.groups) e.new.items round.answers round.run in
    let moment : moment_of old e.batch ≡ e.new.moment = sym round.moment in
    (Tick (moment_of old e.batch) ∷ groups.0, (le-max_right e.batch.moment old.moment, subst (λ (x : ℕ). Leads (at start (moment_of old e.batch)) groups.0 (at e.new.items x)) moment groups.1))

rounds_lead : (s : StateView) (run : List Executed) → IsRunFrom s run → (lines : List Line) × Leads (seen s) lines (seen (last_of s run))
rounds_lead s [] h = ([], refl)
rounds_lead s (e ∷ run) h =
    let first = round_is_one_list s e h.0 in
    let rest = rounds_lead e.new run h.1 in
    (first.0 ++ rest.0, leads_on first.0 rest.0 (seen s) (seen e.new) (seen (last_of e.new run)) first.1 rest.1)

pub run_is_one_list : RunIsOneList
run_is_one_list run h = rounds_lead initial_state run h

pub after_first : (s : StateView) (run more : List Executed) → IsRunFrom s (run ++ more) → IsRunFrom (last_of s run) more
after_first s [] more h = h
after_first s (e ∷ run) more h = after_first e.new run more h.1

pub last_later : (s : StateView) (run more : List Executed) → last_of s (run ++ more) ≡ last_of (last_of s run) more
last_later s [] more = refl
last_later s (e ∷ run) more = last_later e.new run more

pub list_goes_on : ListGoesOn
list_goes_on run more lines h before =
    let rest = rounds_lead (last_of initial_state run) more (after_first initial_state run more h) in
    let end : seen (last_of (last_of initial_state run) more) ≡ seen (last_of initial_state (run ++ more)) = ap seen (sym (last_later initial_state run more)) in
    (rest.0, subst (λ (x : Server). Leads new_server (lines ++ rest.0) x) end (leads_on lines rest.0 new_server (seen (last_of initial_state run)) (seen (last_of (last_of initial_state run) more)) before rest.1))
