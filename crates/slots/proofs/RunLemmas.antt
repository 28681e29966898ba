-- What a job that was run leads to: what its call says, and the steps that lead there too.
use Rattle.std.proofs.Common.{◌≡◌, ◌⊎◌, inl, inr, ⊎_elim, ℕ, Bool, true, false, List, [], ◌∷◌, ◌++◌, Option, None, Some, Result, Ok, Err, refl, sym, ap, ◌∙◌, subst, append_assoc}
use Rattle.std.specs.Prelude.{IsTrue, IsOk, IsErr, IsSome, IfSome, is_some, ◌||◌}
use Rattle.std.specs.List.{list_any}
use Rattle.std.specs.Option.{option_map}
use Rattle.std.proofs.lemmas.List.{append-nil}
use Rattle.keeper.specs.Kept.{Kept}
use Rattle.decrees.specs.declared.node.Letter.{Letter}
use Rattle.items.specs.Map.{Items}
use Rattle.item_steps.specs.declared.step.Stamp.{Stamp}
use Rattle.executor.specs.BatchRequest.{BatchRequest}
use Rattle.executor.specs.Round.{first_place}
use Rattle.executor.specs.Work.{WorkView, IsWork, is_ready}
use Rattle.executor.specs.GroupRun.{is_untouched}
use Rattle.executor.specs.StepOf.{step_in}
use Rattle.exec_lines.specs.declared.body.Body.{Body}
use Rattle.exec_lines.specs.declared.input.Input.{Input}
use Rattle.exec_lines.specs.declared.input.Input.TheVariants as input
use Rattle.exec_lines.specs.declared.shown.NextWork.{NextWork}
use Rattle.exec_lines.specs.declared.shown.NextWork.TheVariants as left_work
use Rattle.exec_lines.specs.Shown.{ComesNext}
use Rattle.exec_lines.specs.State.{ExecutorOutcome}
use Rattle.exec_lines.specs.Lines.{work_after}
use Rattle.exec_lines.specs.Step.{fits_a_line, is_at_end}
use Rattle.exec_lines.specs.Job.{JobView, job_of}
use Rattle.exec_node.specs.Executor.{ExecutorView, executor_outcome, executor_record_after, RanJob}
use Rattle.exec_node.specs.Laws.{Plays, RunIsPlayed, gets_on, none, more}
use Rattle.slots.specs.Slot.{Slot}
use Rattle.slots.specs.declared.slot.Slot.TheVariants.{Up, Down, Gone}
use Rattle.slots.specs.Slots.{ExecutorSettles}
use Rattle.slots.specs.Runs.{ExecutorRan, RunStops, ExecutorRuns, ExecutorSettlesAll, AllGetOn, RunIsSteps}

-- ---- what the executor's call says

-- a job that was run was not to fail
pub ok_is_untold : {T E : Type 0} (r : Result T E) (x : T) (told : Bool) (job : Option JobView) → r ≡ Ok x → (IsTrue told → IsSome job → IsErr r) → (told ≡ false) ⊎ (job ≡ None)
ok_is_untold {T} {E} r x false job is fails = inl refl
ok_is_untold {T} {E} r x true None is fails = inr refl
ok_is_untold {T} {E} r x true (Some j) is fails = absurd (cc (subst (λ (y : Result T E). IsErr y) is (fails refl refl)))

-- if there is no work there is no error
pub left_at_error : {T E : Type 0} (r : Result T E) (e : E) (work : Option WorkView) (next : Option NextWork) → r ≡ Err e → (job_of work ≡ None → IsOk r) → ComesNext work next → (n : NextWork) × ComesNext work (Some n)
left_at_error {T} {E} r e None next is ok comes = absurd (cc (subst (λ (y : Result T E). IsOk y) is (ok refl)))
left_at_error {T} {E} r e (Some w) None is ok comes = absurd comes
left_at_error {T} {E} r e (Some w) (Some n) is ok comes = (n, comes)

pub executor_runs : (e now : ExecutorView) (letters : List (Letter Body)) → ExecutorRan e now letters → ExecutorRuns (Up e) (Up now) letters
executor_runs e now letters ran = inl (now, ran, refl)

pub run_stops : (e : ExecutorView) (kept : Kept) → RunStops e kept → ExecutorRuns (Up e) (Down kept) []
run_stops e kept stops = inr (kept, stops, refl, refl)

-- ---- the same, step by step

settles_more : (s : Slot ExecutorView) (xs : List Input) (next now : Slot ExecutorView) (x : Input) (first new : List (Letter Body)) → ExecutorSettlesAll s xs next first → ExecutorSettles next x now new → ExecutorSettlesAll s (xs ++ x ∷ []) now (first ++ new)
settles_more s [] next now x first new all then =
    (now, new, [], subst (λ (y : Slot ExecutorView). ExecutorSettles y x now new) all.0 then, (refl, refl), ap (λ (ls : List (Letter Body)). ls ++ new) all.1 ∙ sym (append-nil new))
settles_more s (y ∷ xs) next now x first new all then =
    (all.0, all.1, all.2 ++ new, all.3, settles_more all.0 xs next now x all.2 new all.4 then, ap (λ (ls : List (Letter Body)). ls ++ new) all.5 ∙ append_assoc all.1 all.2 new)

gets_more : (xs : List Input) (x : Input) → AllGetOn xs → gets_on x ≡ true → AllGetOn (xs ++ x ∷ [])
gets_more [] x all gets = (gets, tt)
gets_more (y ∷ xs) x all gets = (all.0, gets_more xs x all.1 gets)

told_stays : (e now : ExecutorView) (inputs : List Input) (letters : List (Letter Body)) → Plays e inputs now letters → now.told ≡ e.told
told_stays e _ _ _ none = refl
told_stays e _ _ _ (more inputs now letters next gets plays) = told_stays e now inputs letters plays

settles_untold : (e : ExecutorView) (x : Input) → e.told ≡ false → ExecutorSettles (Up e) x (Up (record e { state = (executor_outcome e x).state; saved = executor_record_after e (executor_outcome e x) })) (executor_outcome e x).letters
settles_untold e x untold = inl (rw untold refl, refl, refl)

played : (e now : ExecutorView) (inputs : List Input) (letters : List (Letter Body)) → e.told ≡ false → Plays e inputs now letters → AllGetOn inputs × ExecutorSettlesAll (Up e) inputs (Up now) letters
played e _ _ _ untold none = (tt, (refl, refl))
played e _ _ _ untold (more inputs now letters next gets plays) =
    let before = played e now inputs letters untold plays in
    (gets_more inputs next before.0 gets, settles_more (Up e) inputs (Up now) _ next letters _ before.1 (settles_untold now next (told_stays e now inputs letters plays ∙ untold)))

-- without a job nothing changes
idle : (e now : ExecutorView) (letters : List (Letter Body)) → RanJob e None now letters → (inputs : List Input) × AllGetOn inputs × ExecutorSettlesAll (Up e) inputs (Up now) letters
idle e now letters ran =
    let o = ran.0 in
    let same : now ≡ e = ran.2 ∙ ap (λ (x : ExecutorOutcome). record e { state = x.state; saved = executor_record_after e x }) ran.1 in
    ([], tt, (ap (λ (x : ExecutorView). Up x) same, ran.3 ∙ ap (λ (x : ExecutorOutcome). x.letters) ran.1))

ran_steps : RunIsPlayed → (e now : ExecutorView) (letters : List (Letter Body)) → ExecutorRan e now letters → (inputs : List Input) × AllGetOn inputs × ExecutorSettlesAll (Up e) inputs (Up now) letters
ran_steps is_played e now letters r = ⊎_elim
    (λ (untold : e.told ≡ false). by untold e.state.work refl r.works r.ran)
    (λ (nothing : job_of e.state.work ≡ None). idle e now letters (subst (λ (j : Option JobView). RanJob e j now letters) nothing r.ran))
    r.untold
  where
    Goal : Type 0
    Goal = (inputs : List Input) × AllGetOn inputs × ExecutorSettlesAll (Up e) inputs (Up now) letters

    at : e.told ≡ false → (w : WorkView) → e.state.work ≡ Some w → IsWork w → (untouched : Bool) → is_untouched w.progress ≡ untouched → RanJob e (job_of e.state.work) now letters → Goal
    at untold w is works true fresh ran =
        let plays = is_played e now w letters is works fresh ran in
        let steps = played e now plays.0 letters untold plays.1 in
        (plays.0, steps.0, steps.1)
    at untold w is works false fresh ran =
        let nothing : job_of (Some w) ≡ None = rw fresh refl in
        idle e now letters (subst (λ (j : Option JobView). RanJob e j now letters) (ap job_of is ∙ nothing) ran)

    by : e.told ≡ false → (work : Option WorkView) → e.state.work ≡ work → IfSome work IsWork → RanJob e (job_of e.state.work) now letters → Goal
    by untold None is works ran = idle e now letters (subst (λ (j : Option JobView). RanJob e j now letters) (ap job_of is) ran)
    by untold (Some w) is works ran = at untold w is works (is_untouched w.progress) refl ran

-- ---- a run that stopped

some_of : {A B : Type 0} (f : A → B) (o : Option A) → is_some o ≡ true → is_some (option_map f o) ≡ true
some_of f None some = absurd (cc some)
some_of f (Some x) some = refl

steps_somewhere : (first : Stamp) (group place : ℕ) (m : Items) (rs : List BatchRequest) → list_any (is_ready group place) rs ≡ true → is_some (step_in first group place m rs) ≡ true
steps_somewhere first group place m [] some = absurd (cc some)
steps_somewhere first group place m (r ∷ rs) some = by (is_ready group place r) refl (λ later. steps_somewhere first group place m rs later)
  where
    by : (ready : Bool) → is_ready group place r ≡ ready → (list_any (is_ready group place) rs ≡ true → is_some (step_in first group place m rs) ≡ true) → is_some (step_in first group place m (r ∷ rs)) ≡ true
    by true is below = rw is refl
    by false is below =
        let later : list_any (is_ready group place) rs ≡ true = sym (ap (λ (b : Bool). b || list_any (is_ready group place) rs) is) ∙ some in
        rw is (some_of (λ (s : Items × List BatchRequest). (s.0, r ∷ s.1)) (step_in first group place m rs) (below later))

next_fits : (u id : ℕ) (s : ExecutorView) (next : NextWork) → ComesNext s.state.work (Some next) → (x : Input) × (gets_on x ≡ true) × IsTrue (fits_a_line u id s.state x)
next_fits u id s next left = by s.state.work refl next left
  where
    by : (work : Option WorkView) → s.state.work ≡ work → (n : NextWork) → ComesNext s.state.work (Some n) → (x : Input) × (gets_on x ≡ true) × IsTrue (fits_a_line u id s.state x)
    by None is n left = absurd (cc (subst (λ (o : Option WorkView). ComesNext o (Some n)) is left))
    by (Some w) is left_work.Finish left = (input.Finish, refl, ap is_at_end is ∙ subst (λ (o : Option WorkView). ComesNext o (Some left_work.Finish)) is left)
    by (Some w) is (left_work.Step place) left =
        let has = subst (λ (o : Option WorkView). ComesNext o (Some (left_work.Step place))) is left in
        let makes : is_some (work_after (Some w) place) ≡ true = some_of _ (step_in (first_place w.base w.batch) w.progress.group place w.progress.items w.progress.running) (steps_somewhere (first_place w.base w.batch) w.progress.group place w.progress.items w.progress.running has.has) in
        (input.Step place, refl, subst (λ (o : Option WorkView). IsTrue (is_some (work_after o place))) (sym is) makes)

stopped_steps : (e : ExecutorView) (kept : Kept) → RunStops e kept → (inputs : List Input) × AllGetOn inputs × ExecutorSettlesAll (Up e) inputs (Down kept) []
stopped_steps e kept stops =
    let x = next_fits e.u e.id e stops.next stops.left in
    (x.0 ∷ [], (x.1, tt), (Down kept, [], [], inr (x.2, (kept, refl, refl, record { record_is = inl stops.same; failures = stops.failures })), (refl, refl), refl))

-- ---- all of it

pub run_is_steps : RunIsPlayed → RunIsSteps
run_is_steps is_played (Down kept) now new runs = ([], tt, runs)
run_is_steps is_played (Gone kept) now new runs = ([], tt, runs)
run_is_steps is_played (Up e) now new (inl ran) =
    let steps = ran_steps is_played e ran.0 new ran.1 in
    (steps.0, steps.1, subst (λ (s : Slot ExecutorView). ExecutorSettlesAll (Up e) steps.0 s new) (sym ran.2) steps.2)
run_is_steps is_played (Up e) now new (inr stops) =
    let steps = stopped_steps e stops.0 stops.1 in
    (steps.0, steps.1, subst (λ (p : Slot ExecutorView × List (Letter Body)). ExecutorSettlesAll (Up e) steps.0 p.0 p.1) (λ i. (sym stops.2 i, sym stops.3 i)) steps.2)
