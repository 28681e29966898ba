-- The step that was made is that of the request that is ready: no two requests have one place.
use Rattle.std.proofs.Common.{◌≡◌, ℕ, zero, suc, Bool, true, false, List, [], ◌∷◌, ◌++◌, length, Option, Some, None, refl, sym, ap, ◌∙◌, arith, subst}
use Rattle.std.specs.Prelude.{◌==◌, ◌&&◌, not, slice_get, slice_set, option_map}
use Rattle.std.specs.List.{list_all}
use Rattle.std.proofs.lemmas.Bool.{cond-true, cond-false}
use Rattle.std.proofs.lemmas.Bool.Decides.{nat_tests}
use Rattle.std.proofs.lemmas.Option.{slice_get_within}
use Rattle.items.specs.Map.{Items}
use Rattle.item_steps.specs.Effect.{effect}
use Rattle.item_steps.specs.Schedule.{stamped}
use Rattle.item_steps.specs.declared.step.Stamp.{Stamp}
use Rattle.item_steps.specs.declared.step.Step.{Step}
use Rattle.executor.specs.BatchRequest.{BatchRequest}
use Rattle.executor.specs.Round.{first_place}
use Rattle.executor.specs.Work.{Progress, WorkView, Worked, WorkStep, HasNoStep, is_ready, is_complete, next_step}
use Rattle.executor.specs.StepOf.{with_step, step_in, step_of}
use Rattle.executor.proofs.WorkedLemmas.{worked-partial}

abbrev answered : Stamp → Items → BatchRequest → Step → BatchRequest
answered at m r step = record r { answers = r.answers ++ (effect m step at).1 ∷ [] }

ready : (group place : ℕ) (r : BatchRequest) (step : Step) → r.place ≡ place → r.group ≡ group → next_step r ≡ Some step → is_ready group place r ≡ true
ready group place r step p g n =
    let more = slice_get_within r.steps (length r.answers) step n in
    let left : is_complete r ≡ false = grind (arith, nat_tests, more) in
    let here : (r.place == place) ≡ true = grind (arith, nat_tests, p) in
    let in_group : (r.group == group) ≡ true = grind (arith, nat_tests, g) in
    λ i. here i && (in_group i && not (left i))

elsewhere : (group place : ℕ) (r : BatchRequest) → (r.place ≡ place → ⊥) → is_ready group place r ≡ false
elsewhere group place r apart = (let not_here : (r.place == place) ≡ false = grind (arith, nat_tests, apart) in ap (λ b. b && ((r.group == group) && not (is_complete r))) not_here)

step_in-at : (first : Stamp) (group place : ℕ) (m : Items) (rs : List BatchRequest) (i : ℕ) (r : BatchRequest) (step : Step) → slice_get rs i ≡ Some r → r.place ≡ place → r.group ≡ group → next_step r ≡ Some step
    → ((j : ℕ) (s : BatchRequest) → slice_get rs j ≡ Some s → s.place ≡ place → j ≡ i)
    → step_in first group place m rs ≡ Some ((effect m step (stamped first place)).0, slice_set rs i (answered (stamped first place) m r step))
step_in-at first group place m [] i r step at p g n one = absurd (cc at)
step_in-at first group place m (x ∷ xs) zero r step at p g n one =
    let here : x ≡ r = cc at in
    let is : is_ready group place x ≡ true = subst (λ y. is_ready group place y ≡ true) (sym here) (ready group place r step p g n) in
    cond-true (is_ready group place x) _ _ is ∙ ap (λ (y : BatchRequest). Some ((with_step (stamped first place) m y (next_step y)).0, (with_step (stamped first place) m y (next_step y)).1 ∷ xs)) here
    ∙ ap (λ o. Some ((with_step (stamped first place) m r o).0, (with_step (stamped first place) m r o).1 ∷ xs)) n
step_in-at first group place m (x ∷ xs) (suc i) r step at p g n one =
    let other = elsewhere group place x (λ h. (let z : 0 ≡ suc i = one 0 x refl h in cc z)) in
    cond-false (is_ready group place x) _ _ other
    ∙ ap (option_map (λ s. (s.0, x ∷ s.1))) (step_in-at first group place m xs i r step at p g n (λ j s a q. (let z : suc j ≡ suc i = one (suc j) s a q in omega (arith, z))))

step_in-none : (first : Stamp) (group place : ℕ) (m : Items) (rs : List BatchRequest) → list_all (λ r. not (is_ready group place r)) rs ≡ true → step_in first group place m rs ≡ None
step_in-none first group place m [] h = refl
step_in-none first group place m (x ∷ xs) h = by (is_ready group place x) refl (step_in-none first group place m xs)
  where
    by : (b : Bool) → is_ready group place x ≡ b → (list_all (λ r. not (is_ready group place r)) xs ≡ true → step_in first group place m xs ≡ None) → step_in first group place m (x ∷ xs) ≡ None
    by true e more = absurd (cc (ap (λ (z : Bool). not z && list_all (λ r. not (is_ready group place r)) xs) (sym e) ∙ h))
    by false e more =
        cond-false (is_ready group place x) _ _ e
        ∙ ap (option_map (λ s. (s.0, x ∷ s.1))) (more (ap (λ (z : Bool). not z && list_all (λ r. not (is_ready group place r)) xs) (sym e) ∙ h))

unmapped : {X Y : Type 0} (f : X → Y) (o : Option X) → option_map f o ≡ None → o ≡ None
unmapped f None e = refl
unmapped f (Some x) e = absurd (cc e)

step_in-left : (first : Stamp) (group place : ℕ) (m : Items) (rs : List BatchRequest) → step_in first group place m rs ≡ None → (i : ℕ) (r : BatchRequest) → slice_get rs i ≡ Some r → is_ready group place r ≡ true → ⊥
step_in-left first group place m [] none i r at is = absurd (cc at)
step_in-left first group place m (x ∷ xs) none zero r at is =
    let here : x ≡ r = cc at in
    let made = sym (cond-true (is_ready group place x) _ _ (ap (is_ready group place) here ∙ is)) ∙ none in
    cc made
step_in-left first group place m (x ∷ xs) none (suc i) r at is = by (is_ready group place x) refl (λ left. step_in-left first group place m xs left i r at is)
  where
    by : (b : Bool) → is_ready group place x ≡ b → (step_in first group place m xs ≡ None → ⊥) → ⊥
    by true e more = (let made = sym (cond-true (is_ready group place x) _ _ e) ∙ none in cc made)
    by false e more = more (unmapped (λ s. (s.0, x ∷ s.1)) (step_in first group place m xs) (sym (cond-false (is_ready group place x) _ _ e) ∙ none))

-- if there is no step at the place no request is ready there
pub none_ready : (w : WorkView) (place i : ℕ) (r : BatchRequest) → step_of w place ≡ None → slice_get w.progress.running i ≡ Some r → is_ready w.progress.group place r ≡ true → ⊥
none_ready w place i r none at is =
    step_in-left (first_place w.base w.batch) w.progress.group place w.progress.items w.progress.running
    (unmapped (λ s. record w { progress = record { items = s.0; running = s.1; group = w.progress.group } }) _ none) i r at is

pub step_made : (w : WorkView) (place : ℕ) (now : Progress) → Worked w.base w.batch w.ordered w.progress → WorkStep (first_place w.base w.batch) w.progress place now → step_of w place ≡ Some (record w { progress = now })
step_made w place now worked m =
    let places = (worked-partial w.base w.batch w.ordered w.progress worked).places in
    ap (option_map (λ s. record w { progress = record { items = s.0; running = s.1; group = w.progress.group } }))
    (step_in-at (first_place w.base w.batch) w.progress.group place w.progress.items w.progress.running m.index m.request m.step m.there m.its m.in_group m.next
    (λ j s at p. places j m.index s m.request at m.there (p ∙ sym m.its)))
    ∙ ap (λ (p : Progress). Some (record w { progress = p })) (sym m.now_is)

pub step_none : (w : WorkView) (place : ℕ) → HasNoStep w.progress place → step_of w place ≡ None
step_none w place none =
    ap (option_map (λ s. record w { progress = record { items = s.0; running = s.1; group = w.progress.group } }))
    (step_in-none (first_place w.base w.batch) w.progress.group place w.progress.items w.progress.running none)
