-- A group that ran as a round is work whose group is done.
use Rattle.std.proofs.Common.{◌≡◌, ℕ, suc, ◌<◌, Bool, true, false, List, [], ◌∷◌, ◌++◌, map, Some, refl, sym, ap, ◌∙◌, subst, arith}
use Rattle.std.specs.Prelude.{IsTrue, ◌==◌, if◌then◌else◌}
use Rattle.std.proofs.lemmas.Bool.{eqb-true, ltb-true}
use Rattle.items.specs.Map.{Items}
use Rattle.item_steps.specs.Schedule.{placed, stamped, answers_in, answers_at, GroupRuns}
use Rattle.item_steps.specs.declared.step.Stamp.{Stamp}
use Rattle.item_steps.specs.declared.step.Answer.{Answer}
use Rattle.item_steps.specs.declared.group.Task.{Task}
use Rattle.batches.specs.declared.batch.Batch.{Batch}
use Rattle.executor.specs.BatchRequest.{BatchRequest}
use Rattle.states.specs.State.{StateView}
use Rattle.executor.specs.Round.{first_place, runners}
use Rattle.executor.specs.Work.{Progress, Worked, IsNextGroup, is_group_done, started, begun, all_begun}
use Rattle.round.specs.Sittings.{Running as RanTask}
use Rattle.executor.specs.Through.{later}
use Rattle.executor.specs.GroupRun.{task_of_request, tasks_in, answered_by, ran_of, IsUntouched}
use Rattle.item_steps.proofs.ScheduleLemmas.{stamped_first}
use Rattle.executor.proofs.PartialLemmas.{Each, each-of-all, all-of-each}
use Rattle.executor.proofs.RoundLemmas.{get_map}
use Rattle.executor.proofs.WorkedLemmas.{worked-partial}
use Rattle.executor.proofs.GroupRunLemmas.{with_answers, left_in, ran}
use Rattle.executor.proofs.ThroughLemmas.{same_later}
use Rattle.executor.proofs.SpreadLemmas.{spread_orders, group_is_spread}

-- to a request that was not begun nothing else is answered
answers_are : (group : ℕ) (all : List (ℕ × Answer)) (running : List BatchRequest) → Each (λ r. r.group ≡ group → r.answers ≡ []) running
    → map (with_answers group all) running ≡ map (answered_by group (λ task. answers_at task.place all)) running
answers_are group all [] untouched = refl
answers_are group all (r ∷ running) untouched = (λ i. one (r.group == group) refl i ∷ answers_are group all running (λ j. untouched (suc j)) i)
  where
    one : (b : Bool) → (r.group == group) ≡ b
        → (if b then record r { answers = r.answers ++ answers_at r.place all } else r) ≡ (if b then record r { answers = answers_at r.place all } else r)
    one false t = refl
    one true t = ap (λ xs. record r { answers = xs ++ answers_at r.place all }) (untouched 0 r refl (eqb-true r.group group t))

-- What work comes to if its group ran as a round.
pub record GroupRan (base : StateView) (batch : Batch) (ordered : Bool) (w : Progress) (now : Items) (answers : List (List Answer)) : Type 0 where
  pub answers_to : Task → List Answer
  pub each : answers ≡ map answers_to (tasks_in w.group w.running)
  pub worked : Worked base batch ordered (record { items = now; running = map (answered_by w.group answers_to) w.running; group = w.group })
  pub done : IsTrue (is_group_done (record { items = now; running = map (answered_by w.group answers_to) w.running; group = w.group }))

pub group_ran : (base : StateView) (batch : Batch) (ordered : Bool) (w : Progress) → Worked base batch ordered w → IsUntouched w → (now : Items) (answers : List (List Answer))
    → GroupRuns (first_place base batch) w.items (tasks_in w.group w.running) now answers → GroupRan base batch ordered w now answers
group_ran base batch ordered w worked untouched now answers runs =
    let each = each-of-all (λ (r : BatchRequest). r.group ≡ w.group → r.answers ≡ []) w.running untouched in
    let orders = spread_orders runs.order (placed (tasks_in w.group w.running)) (map (left_in w.group) w.running) (group_is_spread w.group w.running each) runs.interleaves in
    let r = ran base batch ordered runs.order w worked orders in
    let all : List (ℕ × Answer) = answers_in (first_place base batch) w.items runs.order in
    let is : ◌≡◌ {A = Progress} r.now (record { items = now; running = map (answered_by w.group (λ task. answers_at task.place all)) w.running; group = w.group }) =
    (λ i. record { items = (r.items ∙ sym runs.items) i; running = (r.running ∙ answers_are w.group all w.running each) i; group = r.group i }) in
    record {
      answers_to = λ task. answers_at task.place all;
      each = runs.replies;
      worked = subst (λ (p : Progress). Worked base batch ordered p) is r.worked;
      done = subst (λ (p : Progress). IsTrue (is_group_done p)) is r.done;
    }

-- a group that comes next was not begun
pub untouched_next : (base : StateView) (batch : Batch) (ordered : Bool) (w : Progress) → Worked base batch ordered w → (next : ℕ) → IsNextGroup w.running (Some w.group) next
    → IsUntouched (record { items = w.items; running = w.running; group = next })
untouched_next base batch ordered w worked next n =
    let p = worked-partial base batch ordered w worked in
    let above : w.group < next = ltb-true w.group next n.above in
    all-of-each (λ (r : BatchRequest). r.group ≡ next → r.answers ≡ []) w.running (λ i r at g. p.above i r at (omega (arith, above, g)))

-- no step was made of a batch that was just begun
pub untouched_started : (base : StateView) (batch : Batch) (ordered : Bool) (group : ℕ) → IsUntouched (started base batch ordered group)
untouched_started base batch ordered group =
    all-of-each (λ (r : BatchRequest). r.group ≡ group → r.answers ≡ []) (all_begun base batch ordered)
    (λ i r at g. (let b = get_map (begun batch ordered) (runners base batch) i r at in ap (λ (x : BatchRequest). x.answers) b.2))

-- ---- what a round of a group leaves of its work

zip_ran : (answers_to : Task → List Answer) (ran : List RanTask) (tasks : List Task) → map (λ r. r.task) ran ≡ tasks → map (λ r. r.answers) ran ≡ map answers_to tasks → ran ≡ map (ran_of answers_to) tasks
zip_ran answers_to [] [] e f = refl
zip_ran answers_to [] (t ∷ tasks) e f = absurd (cc e)
zip_ran answers_to (r ∷ ran) [] e f = absurd (cc e)
zip_ran answers_to (r ∷ ran) (t ∷ tasks) e f =
    let task : r.task ≡ t = cc e in
    let answers : r.answers ≡ answers_to t = cc f in
    let later_tasks : map (λ x. x.task) ran ≡ tasks = cc e in
    let later_answers : map (λ x. x.answers) ran ≡ map answers_to tasks = cc f in
    (λ i. record { task = task i; answers = answers i } ∷ zip_ran answers_to ran tasks later_tasks later_answers i)

groups_kept : (group : ℕ) (answers_to : Task → List Answer) (running : List BatchRequest) → map (λ r. r.group) (map (answered_by group answers_to) running) ≡ map (λ r. r.group) running
groups_kept group answers_to [] = refl
groups_kept group answers_to (r ∷ running) = (λ i. one (r.group == group) i ∷ groups_kept group answers_to running i)
  where
    one : (b : Bool) → (if b then record r { answers = answers_to (task_of_request r) } else r).group ≡ r.group
    one true = refl
    one false = refl

pub record RoundDone (base : StateView) (batch : Batch) (ordered : Bool) (w : Progress) (now : Items) (running : List BatchRequest) : Type 0 where
  pub worked : Worked base batch ordered (record { items = now; running = running; group = w.group })
  pub done : IsTrue (is_group_done (record { items = now; running = running; group = w.group }))
  pub left : later (record { items = now; running = running; group = w.group }) ≡ later w

-- the tasks of a group were taken and run, and put back with their answers
pub round_done : (base : StateView) (batch : Batch) (ordered : Bool) (w : Progress) → Worked base batch ordered w → IsUntouched w
    → (place : Stamp) → place ≡ stamped (first_place base batch) 0 → (tasks : List Task) → tasks ≡ tasks_in w.group w.running
    → (now : Items) (ran : List RanTask) → GroupRuns place w.items tasks now (map (λ r. r.answers) ran) → map (λ r. r.task) ran ≡ tasks
    → (put : List BatchRequest) → ((answers_to : Task → List Answer) → ran ≡ map (ran_of answers_to) (tasks_in w.group w.running) → put ≡ map (answered_by w.group answers_to) w.running)
    → RoundDone base batch ordered w now put
round_done base batch ordered w worked untouched place at tasks are now ran runs back put puts =
    let from_first = subst (λ (p : Stamp). GroupRuns p w.items tasks now (map (λ r. r.answers) ran)) (at ∙ stamped_first (first_place base batch)) runs in
    let all = subst (λ (ts : List Task). GroupRuns (first_place base batch) w.items ts now (map (λ r. r.answers) ran)) are from_first in
    let g = group_ran base batch ordered w worked untouched now (map (λ r. r.answers) ran) all in
    let is : put ≡ map (answered_by w.group g.answers_to) w.running = puts g.answers_to (zip_ran g.answers_to ran (tasks_in w.group w.running) (back ∙ are) g.each) in
    record {
      worked = subst (λ (rs : List BatchRequest). Worked base batch ordered (record { items = now; running = rs; group = w.group })) (sym is) g.worked;
      done = subst (λ (rs : List BatchRequest). IsTrue (is_group_done (record { items = now; running = rs; group = w.group }))) (sym is) g.done;
      left = same_later w.group put w.running (ap (map (λ r. r.group)) is ∙ groups_kept w.group g.answers_to w.running);
    }
