-- A step that a seat's request makes.
use Rattle.std.proofs.Common.{◌≡◌, ℕ, ◌+◌, ◌-◌, ◌<◌, ◌≤◌, Bool, true, false, List, [], ◌∷◌, ◌++◌, map, length, set, Some, refl, sym, ap, ◌∙◌, arith, leb, length-append}
use Rattle.std.specs.Prelude.{slice_get, nat_le, nat_lt, ◌&&◌}
use Rattle.std.specs.List.{list_all}
use Rattle.std.proofs.lemmas.Bool.{and_parts, and_from, leb-true, ltb-true, le-leb, lt-ltb}
use Rattle.std.proofs.lemmas.Option.{slice_get_within}
use Rattle.item_steps.specs.declared.step.Stamp.{Stamp}
use Rattle.item_steps.specs.declared.step.Step.{Step}
use Rattle.item_steps.specs.declared.step.Answer.{Answer}
use Rattle.item_steps.specs.declared.group.Task.{Task}
use Rattle.round.specs.declared.rule.Entry.{Entry}
use Rattle.round.specs.Sittings.{Running, running_in, next_of, is_done, answered_at, dealt, task_fits, are_apart, group_fits, fits, Follows}
use Rattle.round.specs.declared.open.TheConstants.{MOST_CALLERS, MOST_TASKS}
use Rattle.round.proofs.Lists.{same_element, get_last, list_all_at}
use Rattle.round.proofs.Interleaves.{apart_from}
use Rattle.round.proofs.Dealt.{dealt_is, dealt_apart}
use Rattle.round.proofs.Follows.{follows_push, running_push, tasks_of_running}

-- if a step comes next, one is left
pub is_left : (r : Running) (s : Step) → next_of r ≡ Some s → is_done r ≡ false
is_left r s next = by (leb (length r.task.steps) (length r.answers)) refl
  where
    within : length r.answers < length r.task.steps
    within = slice_get_within r.task.steps (length r.answers) s next

    by : (b : Bool) → leb (length r.task.steps) (length r.answers) ≡ b → leb (length r.task.steps) (length r.answers) ≡ false
    by true is = let most = leb-true (length r.task.steps) (length r.answers) is in let low = within in absurd (omega arith)
    by false is = is

module _ (base : Stamp) (group : List Task) (callers : ℕ) (fit : fits base group callers ≡ true) where
  both : (nat_lt 0 callers && nat_le callers MOST_CALLERS ≡ true) × (group_fits base group ≡ true)
  both = and_parts (nat_lt 0 callers && nat_le callers MOST_CALLERS) (group_fits base group) fit

  last_two : (list_all (task_fits base) group ≡ true) × (are_apart group ≡ true)
  last_two = and_parts (list_all (task_fits base) group) (are_apart group) (and_parts (nat_le (length group) MOST_TASKS) (list_all (task_fits base) group && are_apart group) both.1).1

  pub fit_apart : are_apart group ≡ true
  fit_apart = last_two.1

  pub fit_some : 0 < callers
  fit_some = ltb-true 0 callers (and_parts (nat_lt 0 callers) (nat_le callers MOST_CALLERS) both.0).0

  -- a request that was dealt fits
  pub fit_dealt : (caller index : ℕ) (t : Task) → slice_get (dealt callers caller group) index ≡ Some t → task_fits base t ≡ true
  fit_dealt caller index t at = let d = dealt_is callers caller 0 group index t at in list_all_at (task_fits base) group last_two.0 d.0 t d.1

-- the step and the answer that are last are those that were made
pub made_last : (old new : Running) (step : Step) (answer : Answer) → next_of old ≡ Some step → new ≡ record { task = old.task; answers = old.answers ++ answer ∷ [] }
    → (length new.answers ≤ length new.task.steps)
    × ((s : Step) → slice_get new.task.steps (length new.answers - 1) ≡ Some s → s ≡ step) × ((a : Answer) → slice_get new.answers (length new.answers - 1) ≡ Some a → a ≡ answer)
made_last old new step answer next is =
    let more : length (old.answers ++ answer ∷ []) ≡ length old.answers + 1 = length-append old.answers (answer ∷ []) in
    let count : length new.answers ≡ length old.answers + 1 = ap (λ (r : Running). length r.answers) is ∙ more in
    let steps : new.task.steps ≡ old.task.steps = ap (λ (r : Running). r.task.steps) is in
    let last : length new.answers - 1 ≡ length old.answers = omega arith in
    let within = slice_get_within old.task.steps (length old.answers) step next in
    let long : length new.task.steps ≡ length old.task.steps = ap length steps in (
      omega arith,
      (λ s at. same_element s step (sym at ∙ (λ k. slice_get (steps k) (last k)) ∙ next)),
      (λ a at. same_element a answer (sym at ∙ (λ k. slice_get (is k).answers (last k)) ∙ get_last old.answers answer)),
    )

-- the seat after the step
pub seat_after : (base : Stamp) (group : List Task) (callers caller : ℕ) → fits base group callers ≡ true → (running : List Running) (log : List Entry) → running ≡ map (running_in log) (dealt callers caller group)
    → Follows (dealt callers caller group) log → (index : ℕ) (task : Task) → slice_get (dealt callers caller group) index ≡ Some task
    → (e : Entry) → e.place ≡ task.place → next_of (running_in log task) ≡ Some e.step
    → (new : Running) → new ≡ record { task = task; answers = answered_at task.place log ++ e.answer ∷ [] }
    → (set running index new ≡ map (running_in (log ++ e ∷ [])) (dealt callers caller group)) × Follows (dealt callers caller group) (log ++ e ∷ [])
    × (map (λ (r : Running). r.task) (set running index new) ≡ dealt callers caller group)
seat_after base group callers caller fit running log has follows index task there e its next new is =
    let tasks = dealt callers caller group in
    let apart = apart_from tasks (dealt_apart callers caller 0 group (fit_apart base group callers fit)) in
    let all = ap (λ (l : List Running). set l index new) has ∙ running_push tasks apart log e index task there its new is in (
      all,
      follows_push tasks apart log e index task there its next follows,
      ap (λ (l : List Running). map (λ (r : Running). r.task) l) all ∙ tasks_of_running (log ++ e ∷ []) tasks,
    )

-- a group that fits does so with any number of callers
pub callers_fit : (base : Stamp) (group : List Task) (callers : ℕ) → group_fits base group ≡ true → 0 < callers → callers ≤ MOST_CALLERS → fits base group callers ≡ true
callers_fit base group callers fit some few =
    and_from (nat_lt 0 callers && nat_le callers MOST_CALLERS) (group_fits base group)
    (and_from (nat_lt 0 callers) (nat_le callers MOST_CALLERS) (lt-ltb 0 callers some) (le-leb callers MOST_CALLERS few)) fit
