-- A job that is run is played by steps and ends of groups.
use Rattle.std.proofs.Common.{◌≡◌, ℕ, zero, suc, ◌+◌, ◌≤◌, ◌<◌, Bool, true, false, List, [], ◌∷◌, ◌++◌, length, Option, Some, None, refl, sym, ap, ◌∙◌, subst, arith, cond}
use Rattle.std.specs.Prelude.{slice_get, slice_set, not, nat_le, nat_lt, ◌==◌, ◌||◌}
use Rattle.std.specs.List.{list_all}
use Rattle.std.proofs.lemmas.Bool.{and_parts, ltb-true, ltb-false, lt-ltb, eq-eqb, cond-true}
use Rattle.std.proofs.lemmas.Bool.Decides.{nat_tests}
use Rattle.std.proofs.lemmas.Option.{slice_get_within}
use Rattle.items.specs.Map.{alive}
use Rattle.decrees.specs.declared.node.Letter.{Letter}
use Rattle.batches.specs.declared.batch.Batch.{Batch}
use Rattle.states.specs.State.{StateView}
use Rattle.states.specs.Followed.{moment_of, state_after}
use Rattle.executor.specs.declared.work.Ended.TheVariants.{On}
use Rattle.executor.specs.BatchRequest.{BatchRequest}
use Rattle.executor.specs.Round.{kept_after}
use Rattle.executor.specs.Work.{Progress, WorkView, TentativeView, Worked, IsLast, began, stepped, moved, all_begun, comes_after, is_complete, is_group_done, least_of, replies_of, tentative_of}
use Rattle.executor.specs.GroupRun.{is_untouched}
use Rattle.executor.specs.StepOf.{step_of}
use Rattle.executor.specs.Through.{ComesOfWork, IsNotLeft}
use Rattle.round.proofs.Lists.{list_all_at}
use Rattle.executor.proofs.PartialLemmas.{Each, each-of-all}
use Rattle.executor.proofs.GroupLemmas.{least_is_next, none_is_last}
use Rattle.executor.proofs.StepOfLemmas.{step_made}
use Rattle.executor.proofs.ThroughLemmas.{all_ran}
use Rattle.executor.proofs.WorkedLemmas.{worked-partial}
use Rattle.exec_lines.specs.declared.body.Body.{Body}
use Rattle.exec_lines.specs.declared.input.Input.{Input}
use Rattle.exec_lines.specs.declared.input.Input.TheVariants as input
use Rattle.exec_lines.specs.Begun.{moved_on}
use Rattle.exec_lines.specs.State.{ExecutorOutcome, unchanged}
use Rattle.exec_lines.specs.Lines.{completed, went_on}
use Rattle.exec_lines.specs.Lines as line
use Rattle.exec_lines.specs.Job.{JobView, RunsJob, job_of}
use Rattle.exec_node.specs.Executor.{ExecutorView, executor_record_after}
use Rattle.exec_node.specs.Laws.{Plays, RunIsPlayed, none, more}

-- how far the groups go at most
abbrev top_of : List BatchRequest → ℕ
top_of [] = 0
top_of (r ∷ rs) = r.group + top_of rs

within_top : (rs : List BatchRequest) → Each (λ r. r.group ≤ top_of rs) rs
within_top [] i r at = absurd (cc at)
within_top (x ∷ rs) zero r at = (let here : x ≡ r = cc at in let same = ap (λ (y : BatchRequest). y.group) here in omega (arith, same))
within_top (x ∷ rs) (suc i) r at = (let later = within_top rs i r at in omega (arith, later))

complete_of : (r : BatchRequest) → length r.steps ≤ length r.answers → is_complete r ≡ true
complete_of r h = grind (arith, nat_tests, h)

-- if the requests of a group are complete the group is done
done_of : (p : Progress) → Each (λ r. r.group ≡ p.group → is_complete r ≡ true) p.running → is_group_done p ≡ true
done_of p h = all_ran p.group p.running (λ j l. by j (slice_get p.running j) refl)
  where
    by : (j : ℕ) (o : Option BatchRequest) → slice_get p.running j ≡ o → IsNotLeft p.group o
    by j None e = tt
    by j (Some r) e = h j r e

touched : (rs : List BatchRequest) (i : ℕ) (before r : BatchRequest) → slice_get rs i ≡ Some before → (length r.answers == 0) ≡ false → list_all (λ x. length x.answers == 0) (slice_set rs i r) ≡ true → ⊥
touched [] i before r at some e = cc at
touched (x ∷ rs) zero before r at some e = (let here = and_parts (length r.answers == 0) (list_all (λ y. length y.answers == 0) rs) e in let clash : true ≡ false = sym here.0 ∙ some in cc clash)
touched (x ∷ rs) (suc i) before r at some e = touched rs i before r at some (and_parts (length x.answers == 0) (list_all (λ y. length y.answers == 0) (slice_set rs i r)) e).1

one_more : {X : Type 0} (xs : List X) (x : X) → (length (xs ++ x ∷ []) == 0) ≡ false
one_more [] x = refl
one_more (y ∷ xs) x = (let n : length ((y ∷ xs) ++ x ∷ []) ≡ suc (length (xs ++ x ∷ [])) = refl in grind (arith, nat_tests, n))

-- work of which no step was made is as it began, but for its group
fresh : (base : StateView) (batch : Batch) (ordered : Bool) (p : Progress) → Worked base batch ordered p → is_untouched p ≡ true → (p.items ≡ alive base.items (moment_of base batch)) × (p.running ≡ all_begun base batch ordered)
fresh base batch ordered _ (began group first) u = (refl, refl)
fresh base batch ordered _ (stepped w now place worked m) u =
    absurd (touched w.running m.index m.request _ m.there (one_more m.request.answers _) (sym (ap is_untouched m.now_is) ∙ u))
fresh base batch ordered _ (moved w group worked done next) u = fresh base batch ordered w worked u

module _ (e : ExecutorView) (base : StateView) (batch : Batch) (ordered : Bool) where
  abbrev work_at : Progress → WorkView
  work_at p = record { base = base; batch = batch; ordered = ordered; progress = p }

  -- the executor at_work this work
  abbrev at_work : Progress → ExecutorView
  at_work p = record e { state = record e.state { work = Some (work_at p) } }

  abbrev in_group : Progress → ℕ → Progress
  in_group p group = record { items = p.items; running = p.running; group = group }

  -- the executor after an outcome
  abbrev left_by : ExecutorOutcome → ExecutorView
  left_by o = record e { state = o.state; saved = executor_record_after e o }

  abbrev ended : Progress → ExecutorOutcome
  ended p = completed e.u e.id e.state [] (tentative_of (work_at p))

  abbrev Reaches : ExecutorView → ExecutorView → List (Letter Body) → Type 0
  Reaches start now letters = (inputs : List Input) × Plays start inputs now letters

  step_more : (start : ExecutorView) (p q : Progress) (place : ℕ) → step_of (work_at p) place ≡ Some (work_at q) → Reaches start (at_work p) [] → Reaches start (at_work q) []
  step_more start p q place is reach =
      let out : Option WorkView → ExecutorOutcome = λ o. line.stepped (at_work p).state o in (
        reach.0 ++ input.Step place ∷ [],
        subst (λ (o : Option WorkView). Plays start (reach.0 ++ input.Step place ∷ []) (record (at_work p) { state = (out o).state; saved = executor_record_after (at_work p) (out o) }) ([] ++ (out o).letters)) is
            (more reach.0 (at_work p) [] (input.Step place) refl reach.1),
      )

  abbrev finish_out : Progress → Bool → Option ℕ → ExecutorOutcome
  finish_out p done next = cond done (went_on e.u e.id (at_work p).state [] (cond done (moved_on (work_at p) next) (On (work_at p)))) (unchanged (at_work p).state)

  finish_more : (start : ExecutorView) (p : Progress) (next : Option ℕ) → is_group_done p ≡ true → least_of (Some p.group) None p.running ≡ next → Reaches start (at_work p) []
      → Reaches start (record (at_work p) { state = (finish_out p true next).state; saved = executor_record_after (at_work p) (finish_out p true next) }) ([] ++ (finish_out p true next).letters)
  finish_more start p next done is reach = (
    reach.0 ++ input.Finish ∷ [],
    subst (λ (d : Bool × Option ℕ). Plays start (reach.0 ++ input.Finish ∷ []) (record (at_work p) { state = (finish_out p d.0 d.1).state; saved = executor_record_after (at_work p) (finish_out p d.0 d.1) }) ([] ++ (finish_out p d.0 d.1).letters))
        (λ i. (done i, is i)) (more reach.0 (at_work p) [] input.Finish refl reach.1),
  )

  -- a request of the group comes after the one that runs
  next_group : (p : Progress) (i : ℕ) (r : BatchRequest) → slice_get p.running i ≡ Some r → p.group < r.group → least_of (Some p.group) None p.running ≡ None → ⊥
  next_group p i r at above is =
      let no = each-of-all (λ (x : BatchRequest). comes_after (Some p.group) x.group ≡ false) p.running (none_is_last (Some p.group) p.running is) i r at in
      let clash : true ≡ false = sym (lt-ltb p.group r.group above) ∙ no in
      cc clash

  -- groups that are complete are passed, up to one in which a request runs
  catch_up : (start : ExecutorView) (n : ℕ) (p : Progress) (target : ℕ) → target ≤ p.group + n → p.group ≤ target → Each (λ r. r.group < target → is_complete r ≡ true) p.running
      → (i : ℕ) (r : BatchRequest) → slice_get p.running i ≡ Some r → r.group ≡ target → Reaches start (at_work p) [] → Reaches start (at_work (in_group p target)) []
  catch_up start zero p target bound le below i r at its reach =
      let same : p.group ≡ target = omega (arith, bound, le) in
      subst (λ (g : ℕ). Reaches start (at_work (in_group p g)) []) same reach
  catch_up start (suc m) p target bound le below i r at its reach = by (nat_lt p.group target) refl (λ group b l. catch_up start m (in_group p group) target b l below i r at its)
    where
      by : (before : Bool) → nat_lt p.group target ≡ before
          → ((group : ℕ) → target ≤ group + m → group ≤ target → Reaches start (at_work (in_group p group)) [] → Reaches start (at_work (in_group p target)) []) → Reaches start (at_work (in_group p target)) []
      by false is again =
          let past = ltb-false p.group target is in
          let same : p.group ≡ target = omega (arith, past, le) in
          subst (λ (g : ℕ). Reaches start (at_work (in_group p g)) []) same reach
      by true is again = at_next (least_of (Some p.group) None p.running) refl
        where
          above : p.group < target
          above = ltb-true p.group target is

          done : is_group_done p ≡ true
          done = done_of p (λ j x there same. below j x there (omega (arith, same, above)))

          at_next : (o : Option ℕ) → least_of (Some p.group) None p.running ≡ o → Reaches start (at_work (in_group p target)) []
          at_next None none_left = absurd (next_group p i r at (omega (arith, its, above)) none_left)
          at_next (Some group) some =
              let next = least_is_next (Some p.group) p.running group some in
              let rises = ltb-true p.group group next.above in
              let least = each-of-all (λ (x : BatchRequest). comes_after (Some p.group) x.group ≡ true → group ≤ x.group) p.running next.least i r at (lt-ltb p.group r.group (omega (arith, its, above))) in
              again group (omega (arith, bound, rises)) (omega (arith, least, its)) (finish_more start p (Some group) done some reach)

  -- work whose requests are complete comes to its end
  finish_all : (start : ExecutorView) (n : ℕ) (p : Progress) → top_of p.running ≤ p.group + n → Each (λ r. is_complete r ≡ true) p.running → Reaches start (at_work p) [] → Reaches start (left_by (ended p)) (ended p).letters
  finish_all start zero p bound complete reach = by (least_of (Some p.group) None p.running) refl
    where
      by : (o : Option ℕ) → least_of (Some p.group) None p.running ≡ o → Reaches start (left_by (ended p)) (ended p).letters
      by None none_left = finish_more start p None (done_of p (λ j x there same. complete j x there)) none_left reach
      by (Some group) some =
          let next = least_is_next (Some p.group) p.running group some in
          let rises = ltb-true p.group group next.above in
          let within = within_top p.running next.index next.request next.there in
          absurd (omega (arith, bound, within, next.its, rises))
  finish_all start (suc m) p bound complete reach = by (least_of (Some p.group) None p.running) refl (λ group b. finish_all start m (in_group p group) b complete)
    where
      by : (o : Option ℕ) → least_of (Some p.group) None p.running ≡ o → ((group : ℕ) → top_of p.running ≤ group + m → Reaches start (at_work (in_group p group)) [] → Reaches start (left_by (ended p)) (ended p).letters)
          → Reaches start (left_by (ended p)) (ended p).letters
      by None none_left again = finish_more start p None (done_of p (λ j x there same. complete j x there)) none_left reach
      by (Some group) some again =
          let next = least_is_next (Some p.group) p.running group some in
          let rises = ltb-true p.group group next.above in
          again group (omega (arith, bound, rises)) (finish_more start p (Some group) (done_of p (λ j x there same. complete j x there)) some reach)

  -- the first has the items and the requests of the second, and no step left before its group
  record Ahead (p q : Progress) : Type 0 where
    items : p.items ≡ q.items
    running : p.running ≡ q.running
    below : Each (λ r. r.group < p.group → is_complete r ≡ true) q.running

  complete_below : (q : Progress) → Worked base batch ordered q → Each (λ r. r.group < q.group → is_complete r ≡ true) q.running
  complete_below q worked i r at lt = complete_of r ((worked-partial base batch ordered q worked).below i r at lt)

  same_progress : (p q : Progress) → p.items ≡ q.items → p.running ≡ q.running → in_group p q.group ≡ q
  same_progress p q items running = λ i. record { items = items i; running = running i; group = q.group }

  -- whatever the work comes to is reached
  simulate : (start : ExecutorView) (first : Progress) → Worked base batch ordered first → is_untouched first ≡ true → Reaches start (at_work first) [] → (q : Progress) → Worked base batch ordered q
      → (p : Progress) × Ahead p q × Reaches start (at_work p) []
  simulate start first worked untouched reach _ (began group least) =
      let is = fresh base batch ordered first worked untouched in (
        first,
        record { items = is.0; running = is.1; below = subst (λ (rs : List BatchRequest). Each (λ r. r.group < first.group → is_complete r ≡ true) rs) is.1 (complete_below first worked) },
        reach,
      )
  simulate start first worked untouched reach _ (stepped w now place before m) =
      let so_far = simulate start first worked untouched reach w before in
      let p = so_far.0 in
      let ahead = so_far.1 in
      let more_left = slice_get_within m.request.steps (length m.request.answers) m.step m.next in
      let le : p.group ≤ w.group = not_past p w ahead m.index m.request m.there m.in_group more_left in
      let there : slice_get p.running m.index ≡ Some m.request = ap (λ (rs : List BatchRequest). slice_get rs m.index) ahead.running ∙ m.there in
      let below = subst (λ (rs : List BatchRequest). Each (λ r. r.group < w.group → is_complete r ≡ true) rs) (sym ahead.running) (complete_below w before) in
      let caught = catch_up start w.group p w.group (omega arith) le below m.index m.request there m.in_group so_far.2 in
      let here : Reaches start (at_work w) [] = subst (λ (x : Progress). Reaches start (at_work x) []) (same_progress p w ahead.items ahead.running) caught in (
        now,
        record { items = refl; running = refl; below = complete_below now (stepped w now place before m) },
        step_more start w now place (step_made (work_at w) place now before m) here,
      )
    where
      not_past : (p w : Progress) → Ahead p w → (i : ℕ) (r : BatchRequest) → slice_get w.running i ≡ Some r → r.group ≡ w.group → length r.answers < length r.steps → p.group ≤ w.group
      not_past p w ahead i r at its left = by (nat_le p.group w.group) refl
        where
          by : (b : Bool) → nat_le p.group w.group ≡ b → p.group ≤ w.group
          by true is = grind (arith, nat_tests, is)
          by false is = absurd (let past : r.group < p.group = grind (arith, nat_tests, is, its) in let is_done = ahead.below i r at past in grind (arith, nat_tests, is_done, left))
  simulate start first worked untouched reach _ (moved w group before done next) =
      let so_far = simulate start first worked untouched reach w before in
      (so_far.0, record { items = so_far.1.items; running = so_far.1.running; below = so_far.1.below }, so_far.2)

  -- at the end of work no request has a step left
  all_complete : (q : Progress) → Worked base batch ordered q → is_group_done q ≡ true → IsLast q.running (Some q.group) → Each (λ r. is_complete r ≡ true) q.running
  all_complete q worked done last i r at = by (nat_lt r.group q.group) refl
    where
      none_after : nat_lt q.group r.group ≡ false
      none_after = each-of-all (λ (x : BatchRequest). comes_after (Some q.group) x.group ≡ false) q.running last i r at

      here : r.group ≡ q.group → is_complete r ≡ true
      here same = ap (λ b. not b || is_complete r) (sym (eq-eqb r.group q.group same)) ∙ list_all_at (λ x. not (x.group == q.group) || is_complete x) q.running done i r at

      by : (b : Bool) → nat_lt r.group q.group ≡ b → is_complete r ≡ true
      by true lt = complete_below q worked i r at (ltb-true r.group q.group lt)
      by false ge = here (let low = ltb-false r.group q.group ge in let high = ltb-false q.group r.group none_after in omega (arith, low, high))

  one_tentative : (p q : Progress) → p.items ≡ q.items → p.running ≡ q.running → tentative_of (work_at p) ≡ tentative_of (work_at q)
  one_tentative p q items running =
      λ i. record { before = base; batch = batch; after = state_after base batch (kept_after base.sessions (replies_of base batch (running i))) (items i); replies = replies_of base batch (running i) }

  played : (first : Progress) → Worked base batch ordered first → is_untouched first ≡ true → (t : TentativeView) → ComesOfWork base batch ordered t
      → Reaches (at_work first) (left_by (completed e.u e.id e.state [] t)) (completed e.u e.id e.state [] t).letters
  played first worked untouched t comes =
      let so_far = simulate (at_work first) first worked untouched ([], none) comes.last comes.worked in
      let p = so_far.0 in
      let ahead = so_far.1 in
      let complete = subst (λ (rs : List BatchRequest). Each (λ r. is_complete r ≡ true) rs) (sym ahead.running) (all_complete comes.last comes.worked comes.done comes.ends) in
      let reach = finish_all (at_work first) (top_of p.running) p (omega arith) complete so_far.2 in
      let is : tentative_of (work_at p) ≡ t = one_tentative p comes.last ahead.items ahead.running ∙ sym comes.tentative in
      subst (λ (x : TentativeView). Reaches (at_work first) (left_by (completed e.u e.id e.state [] x)) (completed e.u e.id e.state [] x).letters) is reach

pub run_is_played : RunIsPlayed
run_is_played e now w letters work is untouched ran =
    let job : job_of e.state.work ≡ Some (record { base = w.base; batch = w.batch; ordered = w.ordered }) = ap job_of work ∙ cond-true (is_untouched w.progress) _ _ untouched in
    let runs = subst (λ (j : Option JobView). RunsJob e.u e.id e.state j ran.0) job ran.1 in
    let start : at_work e w.base w.batch w.ordered w.progress ≡ e = λ i. record e { state = record e.state { work = sym work i } } in
    let plays = played e w.base w.batch w.ordered w.progress is.worked untouched runs.0 runs.1 in
    let ends = ran.2 ∙ ap (λ (o : ExecutorOutcome). left_by e w.base w.batch w.ordered o) runs.2 in
    let said = ran.3 ∙ ap (λ (o : ExecutorOutcome). o.letters) runs.2 in (
      plays.0,
      subst (λ (x : ExecutorView × (ExecutorView × List (Letter Body))). Plays x.0 plays.0 x.1.0 x.1.1) (λ i. (start i, (sym ends i, sym said i))) plays.1,
    )
