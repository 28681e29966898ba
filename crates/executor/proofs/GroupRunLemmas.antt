-- If the steps of a group ran in some interleaving, work goes on as if they were made one after the other.
use Rattle.std.proofs.Common.{◌≡◌, ◌≢◌, ℕ, zero, suc, nat_le, Bool, true, false, List, [], ◌∷◌, ◌++◌, map, length, drop, set, Some, refl, sym, ap, ◌∙◌, arith, subst, append_assoc}
use Rattle.std.specs.Prelude.{slice_get, IsTrue, ◌==◌, if◌then◌else◌}
use Rattle.std.specs.List.{AllByRecursion}
use Rattle.std.proofs.lemmas.Bool.{eq-eqb, eqb-true}
use Rattle.std.proofs.lemmas.List.{append-nil, length_push, map-id, map-set}
use Rattle.std.proofs.lemmas.Bool.Decides.{nat_tests}
use Rattle.item_steps.specs.Effect.{effect}
use Rattle.item_steps.specs.Schedule.{Placed, IsInterleaving, stamped, items_after, answers_in, answers_at}
use Rattle.item_steps.specs.declared.step.Stamp.{Stamp}
use Rattle.item_steps.specs.declared.step.Step.{Step}
use Rattle.item_steps.specs.declared.step.Answer.{Answer}
use Rattle.batches.specs.declared.batch.Batch.{Batch}
use Rattle.round.proofs.Lists.{map_same}
use Rattle.executor.specs.BatchRequest.{BatchRequest}
use Rattle.states.specs.State.{StateView}
use Rattle.executor.specs.Round.{first_place}
use Rattle.executor.specs.Work.{Progress, Worked, stepped, WorkStep, next_step, is_complete, is_group_done}
use Rattle.executor.specs.Through.{IsNotLeft}
use Rattle.executor.proofs.RoundLemmas.{get_map, answers_at-append, answers_at-own, answers_at-other}
use Rattle.executor.proofs.WorkedLemmas.{worked-partial}
use Rattle.executor.proofs.ThroughLemmas.{all_ran}

-- steps with the place of their request
abbrev pub at_place : ℕ → List Step → List Placed
at_place place steps = map (λ step. (place, step)) steps

-- the steps that a request has left, if it is in the group
abbrev pub left_in : ℕ → BatchRequest → List Placed
left_in group r = if r.group == group then at_place r.place (drop (length r.answers) r.steps) else []

-- a request with what it is answered beside what it was, if it is in the group
abbrev pub with_answers : ℕ → List (ℕ × Answer) → BatchRequest → BatchRequest
with_answers group answers r = if r.group == group then record r { answers = r.answers ++ answers_at r.place answers } else r

-- a list that was changed at one place and then mapped is another map of the list, if the two agree
set_map : {X Y : Type 0} (f h : X → Y) (xs : List X) (i : ℕ) (x y : X) → slice_get xs i ≡ Some x → f y ≡ h x → ((j : ℕ) (z : X) → j ≢ i → slice_get xs j ≡ Some z → f z ≡ h z) → map f (set xs i y) ≡ map h xs
set_map f h [] i x y at here others = absurd (cc at)
set_map f h (z ∷ xs) zero x y at here others =
    let e : z ≡ x = cc at in
    (λ k. (here ∙ ap h (sym e)) k ∷ map_same f h xs (λ j w a. others (suc j) w (λ q. (omega (arith, q))) a) k)
set_map f h (z ∷ xs) (suc i) x y at here others =
    (λ k. others 0 z (λ q. (omega (arith, q))) refl k ∷ set_map f h xs i x y at here (λ j w d a. others (suc j) w (λ q. d (omega (arith, q))) a) k)

-- what is answered to a request that made the first step is that answer, and what comes later
answers_first : (place : ℕ) (a : Answer) (later : List (ℕ × Answer)) → answers_at place ((place, a) ∷ later) ≡ a ∷ answers_at place later
answers_first place a later = answers_at-append place ((place, a) ∷ []) later ∙ ap (λ xs. xs ++ answers_at place later) (answers_at-own place a)

answers_of_other : (place other : ℕ) (a : Answer) (later : List (ℕ × Answer)) → other ≢ place → answers_at place ((other, a) ∷ later) ≡ answers_at place later
answers_of_other place other a later d = answers_at-append place ((other, a) ∷ []) later ∙ ap (λ xs. xs ++ answers_at place later) (answers_at-other place other a d)

-- the first of the steps that a request has left
record First (group : ℕ) (r : BatchRequest) (x : Placed) (rest : List Placed) : Type 0 where
  in_group : r.group ≡ group
  place : r.place ≡ x.0
  next : next_step r ≡ Some x.1
  later : (a : Answer) → left_in group (record r { answers = r.answers ++ a ∷ [] }) ≡ rest

first_left : (group : ℕ) (r : BatchRequest) (x : Placed) (rest : List Placed) → left_in group r ≡ x ∷ rest → First group r x rest
first_left group r x rest e = by (r.group == group) refl e
  where
    of_drop : (n : ℕ) (ss : List Step) → at_place r.place (drop n ss) ≡ x ∷ rest → (slice_get ss n ≡ Some x.1) × (r.place ≡ x.0) × (at_place r.place (drop (suc n) ss) ≡ rest)
    of_drop zero [] e = absurd (cc e)
    of_drop zero (s ∷ ss) e =
        let head : ◌≡◌ {A = Placed} (r.place, s) x = cc e in
        let tail : at_place r.place ss ≡ rest = cc e in
        (ap (λ (p : Placed). Some p.1) head, ap (λ (p : Placed). p.0) head, tail)
    of_drop (suc n) [] e = absurd (cc e)
    of_drop (suc n) (s ∷ ss) e = of_drop n ss e

    by : (b : Bool) → (r.group == group) ≡ b → (if b then at_place r.place (drop (length r.answers) r.steps) else []) ≡ x ∷ rest → First group r x rest
    by false t e = absurd (cc e)
    by true t e =
        let parts = of_drop (length r.answers) r.steps e in
        record {
          in_group = eqb-true r.group group t;
          place = parts.1;
          next = parts.0;
          later = λ a. (let count : length (r.answers ++ a ∷ []) ≡ suc (length r.answers) = omega (arith, length_push r.answers a) in
              rw t (ap (λ n. at_place r.place (drop n r.steps)) count ∙ parts.2));
        }

module _ (base : StateView) (batch : Batch) (ordered : Bool) where
  abbrev first : Stamp
  first = first_place base batch

  -- What work comes to by the steps of the group that runs, in this order.
  pub record Ran (w : Progress) (order : List Placed) : Type 0 where
    pub now : Progress
    pub worked : Worked base batch ordered now
    pub done : IsTrue (is_group_done now)
    pub group : now.group ≡ w.group
    pub items : now.items ≡ items_after first w.items order
    pub running : now.running ≡ map (with_answers w.group (answers_in first w.items order)) w.running

  none_left : (w : Progress) → Worked base batch ordered w → AllByRecursion (λ list. list ≡ []) (map (left_in w.group) w.running) → Ran w []
  none_left w worked none = record {
    now = w;
    worked = worked;
    done = all_ran w.group w.running (λ j l. at_end w.running none j);
    group = refl;
    items = refl;
    running = sym (map_same (with_answers w.group []) (λ x. x) w.running (λ i x at. same x) ∙ map-id w.running);
  }
    where
      same : (x : BatchRequest) → with_answers w.group [] x ≡ x
      same x = by (x.group == w.group)
        where
          by : (b : Bool) → (if b then record x { answers = x.answers ++ [] } else x) ≡ x
          by true = ap (λ (as' : List Answer). record x { answers = as' }) (append-nil x.answers)
          by false = refl

      one : (x : BatchRequest) → left_in w.group x ≡ [] → x.group ≡ w.group → is_complete x ≡ true
      one x e g = past (length x.answers) x.steps (cut (x.group == w.group) (eq-eqb x.group w.group g) e)
        where
          cut : (b : Bool) → b ≡ true → (if b then at_place x.place (drop (length x.answers) x.steps) else []) ≡ [] → at_place x.place (drop (length x.answers) x.steps) ≡ []
          cut true t h = h
          cut false t h = absurd (cc t)

          past : (n : ℕ) (ss : List Step) → at_place x.place (drop n ss) ≡ [] → nat_le (length ss) n ≡ true
          past n [] h = grind (arith, nat_tests)
          past zero (s ∷ ss) h = absurd (cc h)
          past (suc n) (s ∷ ss) h = let p = past n ss h in grind (arith, nat_tests)

      at_end : (rs : List BatchRequest) → AllByRecursion (λ list. list ≡ []) (map {B = List Placed} (left_in w.group) rs) → (j : ℕ) → IsNotLeft w.group (slice_get rs j)
      at_end [] h j = tt
      at_end (x ∷ rs) h zero = one x h.0
      at_end (x ∷ rs) h (suc j) = at_end rs h.1 j

  pub ran : (order : List Placed) (w : Progress) → Worked base batch ordered w → IsInterleaving (map (left_in w.group) w.running) order → Ran w order
  ran [] w worked h = none_left w worked h
  ran (x ∷ order) w worked h =
      let found = get_map (left_in w.group) w.running h.0 (x ∷ h.1) h.2 in
      let r = found.0 in
      let f = first_left w.group r x h.1 (sym found.2) in
      let e = effect w.items x.1 (stamped first x.0) in
      let after : BatchRequest = record r { answers = r.answers ++ e.1 ∷ [] } in
      let next : Progress = record { items = e.0; running = set w.running h.0 after; group = w.group } in
      let made : WorkStep first w x.0 next = record { index = h.0; request = r; step = x.1; there = found.1; its = f.place; in_group = f.in_group; next = f.next; now_is = refl } in
      let lists : map (left_in w.group) next.running ≡ set (map (left_in w.group) w.running) h.0 h.1 = map-set (left_in w.group) w.running h.0 after ∙ ap (set (map (left_in w.group) w.running) h.0) (f.later e.1) in
      let rest = ran order next (stepped w next x.0 worked made) (subst (λ (ls : List (List Placed)). IsInterleaving ls order) (sym lists) h.3) in
      let p = worked-partial base batch ordered w worked in
      let later : List (ℕ × Answer) = answers_in first e.0 order in
      record {
        now = rest.now;
        worked = rest.worked;
        done = rest.done;
        group = rest.group;
        items = rest.items;
        running = rest.running
            ∙ set_map (with_answers w.group later) (with_answers w.group ((x.0, e.1) ∷ later)) w.running h.0 r after found.1
            (own w.group r x.0 e.1 later f.in_group f.place)
            (λ j y d at. other w.group y x.0 e.1 later (λ q. d (sym (p.places h.0 j r y found.1 at (f.place ∙ q)))));
      }
    where
      own : (g : ℕ) (r : BatchRequest) (place : ℕ) (a : Answer) (later : List (ℕ × Answer)) → r.group ≡ g → r.place ≡ place
          → with_answers g later (record r { answers = r.answers ++ a ∷ [] }) ≡ with_answers g ((place, a) ∷ later) r
      own g r place a later in_group is =
          rw (eq-eqb r.group g in_group)
          (ap (λ (as' : List Answer). record r { answers = as' })
          (append_assoc r.answers (a ∷ []) (answers_at r.place later)
          ∙ ap (λ xs. r.answers ++ xs) (sym (answers_first r.place a later) ∙ ap (λ k. answers_at r.place ((k, a) ∷ later)) is)))

      other : (g : ℕ) (y : BatchRequest) (place : ℕ) (a : Answer) (later : List (ℕ × Answer)) → place ≢ y.place → with_answers g later y ≡ with_answers g ((place, a) ∷ later) y
      other g y place a later d = by (y.group == g)
        where
          by : (b : Bool) → (if b then record y { answers = y.answers ++ answers_at y.place later } else y) ≡ (if b then record y { answers = y.answers ++ answers_at y.place ((place, a) ∷ later) } else y)
          by true = ap (λ xs. record y { answers = y.answers ++ xs }) (sym (answers_of_other y.place place a later d))
          by false = refl
