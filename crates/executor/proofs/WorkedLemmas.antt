-- Whatever steps were made, they are a beginning of a round; and at the end they are a round.
use Rattle.std.proofs.Common.{◌≡◌, ◌≢◌, ℕ, suc, ◌+◌, ◌-◌, ◌<◌, ◌≤◌, Bool, true, false, List, [], ◌∷◌, ◌++◌, map, length, take, set, get_or, Some, Option, refl, sym, ap, ◌∙◌, arith, subst, ◌⊎◌, inl, inr, append_assoc}
use Rattle.std.specs.Prelude.{slice_get, All, IsTrue, not, ◌||◌, ◌==◌}
use Rattle.std.specs.List.{range_with_len, list_all, zip}
use Rattle.std.proofs.lemmas.List.{append-nil, map-append, length_push, take_more, map-set}
use Rattle.std.proofs.lemmas.Bool.{cases_order, eq-eqb, leb-true, ltb-true, ltb-false, lt-ltb}
use Rattle.std.proofs.lemmas.Option.{slice_get_within, get_or_from_slice_get}
use Rattle.items.specs.Map.{Items, alive}
use Rattle.item_steps.specs.Effect.{effect}
use Rattle.item_steps.specs.Steps.{reply}
use Rattle.item_steps.specs.Schedule.{Placed, IsInterleaving, stamped, items_after, answers_in, answers_at}
use Rattle.item_steps.specs.declared.step.Step.{Step}
use Rattle.item_steps.specs.declared.step.Answer.{Answer}
use Rattle.batches.specs.declared.batch.Batch.{Batch}
use Rattle.executor.specs.BatchRequest.{BatchRequest}
use Rattle.states.specs.State.{StateView}
use Rattle.executor.specs.Fresh.{Runner}
use Rattle.executor.specs.declared.answered.Answered.{Answered}
use Rattle.states.specs.Followed.{moment_of}
use Rattle.executor.specs.Round.{runners, first_place, group_of, steps_in, answered, Round}
use Rattle.executor.specs.Work.{Progress, begun, all_begun, next_step, is_complete, is_group_done, started, comes_after, IsFirst, IsNextGroup, IsLast, WorkStep, Worked, began, stepped, moved, replied, replies_of, state_made}
use Rattle.item_steps.proofs.ScheduleLemmas.{items_push, answers_push}
use Rattle.round.proofs.Lists.{list_all_at, map_at, set_else, set_there}
use Rattle.executor.proofs.OrderLemmas.{order_push, same_or_not, set_here}
use Rattle.executor.proofs.PartialLemmas.{Each, each-of-all, all-of-each, made_in, forget, first, groups_run, Partial}
use Rattle.executor.proofs.RoundLemmas.{groups_append, groups_empty, range_parts, range_at, get_map, each_set, fresh_apart, answers_at-append, answers_at-own, answers_at-other, made_all, none_made, no_steps}

module _ (base : StateView) (batch : Batch) (ordered : Bool) where
  abbrev there : List Runner
  there = runners base batch

  forget_begun : (rs : List Runner) → map forget (map (begun batch ordered) rs) ≡ map (begun batch ordered) rs
  forget_begun [] = refl
  forget_begun (r ∷ rs) = ap (λ xs. begun batch ordered r ∷ xs) (forget_begun rs)

  -- each request that runs now is one of those that run
  each_begun : (P : BatchRequest → Type 0) → ((r : Runner) → P (begun batch ordered r)) → Each P (all_begun base batch ordered)
  each_begun P all i x at =
      let r = get_map (begun batch ordered) there i x at in
      subst P (sym r.2) (all r.0)

  -- groups below the first are empty
  below_first : (group : ℕ) → IsFirst (all_begun base batch ordered) group → Each (λ r. group ≤ group_of batch ordered r) there
  below_first group least i r at = each-of-all (λ (x : BatchRequest). group ≤ x.group) (all_begun base batch ordered) least i (begun batch ordered r) (map_at (begun batch ordered) there i r at)

  partial-began : (group : ℕ) → IsFirst (all_begun base batch ordered) group → Partial base batch ordered (started base batch ordered group)
  partial-began group least = record {
    same = forget_begun there;
    start = alive base.items (moment_of base batch);
    earlier = [];
    order = [];
    groups = groups_empty _ _ _ _ (λ i g at. no_steps base batch ordered g there (λ j r inside e. omega (arith, e, below_first group least j r inside, (range_at 0 group i g at).1)));
    items = refl;
    interleaves = none_made base batch ordered group (all_begun base batch ordered) (each_begun (λ x. x.group ≡ group → x.answers ≡ []) (λ r e. refl));
    answers = each_begun (λ x. x.answers ≡ answers_at x.place []) (λ r. refl);
    above = each_begun (λ x. group < x.group → x.answers ≡ []) (λ r l. refl);
    below = λ i x at l. absurd (omega (arith, l, each-of-all (λ (y : BatchRequest). group ≤ y.group) (all_begun base batch ordered) least i x at));
    within = each_begun (λ x. length x.answers ≤ length x.steps) (λ r. omega arith);
    places = λ i j x y a b e.
        let r = get_map (begun batch ordered) there i x a in
        let t = get_map (begun batch ordered) there j y b in
        fresh_apart base.sessions [] batch.requests i j r.0 t.0 r.1 t.1 (ap (λ (z : BatchRequest). z.place) (sym r.2) ∙ e ∙ ap (λ (z : BatchRequest). z.place) t.2);
  }

  -- ---- one step more

  made_more : (g : ℕ) (x : BatchRequest) (step : Step) (a : Answer) → x.group ≡ g → next_step x ≡ Some step
      → made_in g (record x { answers = x.answers ++ a ∷ [] }) ≡ made_in g x ++ (x.place, step) ∷ []
  made_more g x step a here next =
      let within = slice_get_within x.steps (length x.answers) step next in
      let is : get_or x.steps (length x.answers) step ≡ step = get_or_from_slice_get x.steps (length x.answers) step step next in
      rw (eq-eqb x.group g here)
      (ap (λ k. map (λ s. (x.place, s)) (take k x.steps)) (length_push x.answers a)
      ∙ ap (map (λ s. (x.place, s))) (take_more x.steps (length x.answers) step within)
      ∙ map-append (λ s. (x.place, s)) (take (length x.answers) x.steps) (get_or x.steps (length x.answers) step ∷ [])
      ∙ ap (λ s. map (λ s. (x.place, s)) (take (length x.answers) x.steps) ++ (x.place, s) ∷ []) is)

  module _ (w : Progress) (place : ℕ) (p : Partial base batch ordered w) (index : ℕ) (x : BatchRequest) (step : Step)
      (inside : slice_get w.running index ≡ Some x) (its : x.place ≡ place) (in_group : x.group ≡ w.group) (next : next_step x ≡ Some step) where
    abbrev answer : Answer
    answer = (effect w.items step (stamped (first base batch ordered) place)).1

    abbrev after : BatchRequest
    after = record x { answers = x.answers ++ answer ∷ [] }

    abbrev running_after : List BatchRequest
    running_after = set w.running index after

    abbrev order_after : List Placed
    order_after = p.order ++ (place, step) ∷ []

    same_answer : (effect (items_after (first base batch ordered) p.start p.order) step (stamped (first base batch ordered) place)).1 ≡ answer
    same_answer = ap (λ m. (effect m step (stamped (first base batch ordered) place)).1) (sym p.items)

    all_answers : p.earlier ++ answers_in (first base batch ordered) p.start order_after ≡ (p.earlier ++ answers_in (first base batch ordered) p.start p.order) ++ (place, answer) ∷ []
    all_answers =
        ap (λ xs. p.earlier ++ xs) (answers_push (first base batch ordered) p.start p.order (place, step) ∙ ap (λ a. answers_in (first base batch ordered) p.start p.order ++ (place, a) ∷ []) same_answer)
        ∙ sym (append_assoc p.earlier (answers_in (first base batch ordered) p.start p.order) ((place, answer) ∷ []))

    own_answers : after.answers ≡ answers_at after.place (p.earlier ++ answers_in (first base batch ordered) p.start order_after)
    own_answers =
        ap (λ xs. xs ++ answer ∷ []) (p.answers index x inside)
        ∙ ap (λ xs. answers_at x.place (p.earlier ++ answers_in (first base batch ordered) p.start p.order) ++ xs) (sym (answers_at-own x.place answer) ∙ ap (λ k. answers_at x.place ((k, answer) ∷ [])) its)
        ∙ sym (answers_at-append x.place (p.earlier ++ answers_in (first base batch ordered) p.start p.order) ((place, answer) ∷ []))
        ∙ ap (answers_at x.place) (sym all_answers)

    other_answers : (j : ℕ) (z : BatchRequest) → index ≢ j → slice_get w.running j ≡ Some z → z.answers ≡ answers_at z.place (p.earlier ++ answers_in (first base batch ordered) p.start order_after)
    other_answers j z apart at =
        p.answers j z at
        ∙ sym (append-nil (answers_at z.place (p.earlier ++ answers_in (first base batch ordered) p.start p.order)))
        ∙ ap (λ xs. answers_at z.place (p.earlier ++ answers_in (first base batch ordered) p.start p.order) ++ xs) (sym (answers_at-other z.place place answer (λ e. apart (p.places index j x z inside at (its ∙ e)))))
        ∙ sym (answers_at-append z.place (p.earlier ++ answers_in (first base batch ordered) p.start p.order) ((place, answer) ∷ []))
        ∙ ap (answers_at z.place) (sym all_answers)

    -- the place of each request is as it was
    before : (j : ℕ) (z : BatchRequest) → slice_get running_after j ≡ Some z → (y : BatchRequest) × (slice_get w.running j ≡ Some y) × (y.place ≡ z.place)
    before j z at = elim (same_or_not index j) [
      | inl e ↦
          let is : ◌≡◌ {A = Option BatchRequest} (Some after) (Some z) = sym (set_there w.running index after x inside) ∙ ap (slice_get running_after) e ∙ at in
          let one : after ≡ z = cc is in
          (x, ap (slice_get w.running) (sym e) ∙ inside, ap (λ (y : BatchRequest). y.place) one)
      | inr d ↦ (z, sym (set_else w.running index after j (λ e. d (sym e))) ∙ at, refl)
    ]

    interleaves_after : IsInterleaving (map (made_in w.group) running_after) order_after
    interleaves_after =
        let more = order_push (map (made_in w.group) w.running) p.order index (made_in w.group x) (place, step) p.interleaves (map_at (made_in w.group) w.running index x inside) in
        let one : made_in w.group after ≡ made_in w.group x ++ (place, step) ∷ [] = made_more w.group x step answer in_group next ∙ ap (λ k. made_in w.group x ++ (k, step) ∷ []) its in
        subst (λ (lists : List (List Placed)). IsInterleaving lists order_after) (sym (map-set (made_in w.group) w.running index after ∙ ap (set (map (made_in w.group) w.running) index) one)) more

    partial-step : Partial base batch ordered (record { items = (effect w.items step (stamped (first base batch ordered) place)).0; running = running_after; group = w.group })
    partial-step = record {
      same = map-set forget w.running index after ∙ set_here (map forget w.running) index (forget x) (map_at forget w.running index x inside) ∙ p.same;
      start = p.start;
      earlier = p.earlier;
      order = order_after;
      groups = p.groups;
      items = ap (λ m. (effect m step (stamped (first base batch ordered) place)).0) p.items ∙ sym (items_push (first base batch ordered) p.start p.order (place, step));
      interleaves = interleaves_after;
      answers = each_set (λ z. z.answers ≡ answers_at z.place (p.earlier ++ answers_in (first base batch ordered) p.start order_after)) w.running index x after inside other_answers own_answers;
      above = each_set (λ z. w.group < z.group → z.answers ≡ []) w.running index x after inside (λ j z d at. p.above j z at) (λ l. absurd (omega (arith, l, in_group)));
      below = each_set (λ z. z.group < w.group → length z.steps ≤ length z.answers) w.running index x after inside (λ j z d at. p.below j z at) (λ l. absurd (omega (arith, l, in_group)));
      within = each_set (λ z. length z.answers ≤ length z.steps) w.running index x after inside (λ j z d at. p.within j z at) (omega (arith, length_push x.answers answer, slice_get_within x.steps (length x.answers) step next));
      places = λ i j y z a b e.
          let one = before i y a in
          let two = before j z b in
          p.places i j one.0 two.0 one.1 two.1 (one.2 ∙ e ∙ sym two.2);
    }

  partial-stepped : (w now : Progress) (place : ℕ) → Partial base batch ordered w → WorkStep (first_place base batch) w place now → Partial base batch ordered now
  partial-stepped w now place p m = subst (λ (n : Progress). Partial base batch ordered n) (sym m.now_is) (partial-step w place p m.index m.request m.step m.there m.its m.in_group m.next)

  -- ---- the end of a group

  pub group_is_done : (w : Progress) → IsTrue (is_group_done w) → Each (λ x. x.group ≡ w.group → length x.steps ≤ length x.answers) w.running
  group_is_done w done i x at e = one (x.group == w.group) (eq-eqb x.group w.group e) (list_all_at (λ r. not (r.group == w.group) || is_complete r) w.running done i x at)
    where
      one : (b : Bool) → b ≡ true → (not b || is_complete x) ≡ true → length x.steps ≤ length x.answers
      one true e h = leb-true (length x.steps) (length x.answers) h
      one false e h = absurd (cc e)

  -- a request that runs is one of the batch's, in the same group
  running_of : (w : Progress) → Partial base batch ordered w → (i : ℕ) (r : Runner) → slice_get there i ≡ Some r → (x : BatchRequest) × (slice_get w.running i ≡ Some x) × (x.group ≡ group_of batch ordered r)
  running_of w p i r at =
      let x = get_map forget w.running i (begun batch ordered r) (ap (λ xs. slice_get xs i) p.same ∙ map_at (begun batch ordered) there i r at) in
      (x.0, x.1, ap (λ (y : BatchRequest). y.group) (sym x.2))

  steps_interleave : (w : Progress) (p : Partial base batch ordered w) → IsTrue (is_group_done w) → IsInterleaving (map (steps_in batch ordered w.group) there) p.order
  steps_interleave w p done = subst (λ (lists : List (List Placed)). IsInterleaving lists p.order) (made_all base batch ordered w.group w.running there p.same (group_is_done w done)) p.interleaves

  abbrev answers_now : (w : Progress) → Partial base batch ordered w → List (ℕ × Answer)
  answers_now w p = p.earlier ++ (answers_in (first base batch ordered) p.start p.order ++ [])

  answers_same : (w : Progress) (p : Partial base batch ordered w) → p.earlier ++ answers_in (first base batch ordered) p.start p.order ≡ answers_now w p
  answers_same w p = ap (λ xs. p.earlier ++ xs) (sym (append-nil (answers_in (first base batch ordered) p.start p.order)))

  -- the groups up to this one, and others in which no request runs
  groups_to : (w : Progress) (p : Partial base batch ordered w) → IsTrue (is_group_done w) → (group : ℕ) → w.group < group
      → Each (λ r. w.group < group_of batch ordered r → group ≤ group_of batch ordered r) there
      → groups_run base batch ordered (alive base.items (moment_of base batch)) (range_with_len 0 group) w.items (answers_now w p)
  groups_to w p done group above least =
      let from : w.group ≡ 0 + w.group = omega arith in
      let count : w.group + suc (group - (w.group + 1)) ≡ group = omega arith in
      let empty = groups_empty (λ g. map (steps_in batch ordered g) there) (first base batch ordered) w.items (range_with_len (w.group + 1) (group - (w.group + 1)))
      (λ i g at. let bounds = range_at (w.group + 1) (group - (w.group + 1)) i g at in
      no_steps base batch ordered g there (λ j r inside e. omega (arith, e, bounds.0, bounds.1, above, least j r inside (omega (arith, e, bounds.0))))) in
      let one : groups_run base batch ordered p.start (w.group ∷ range_with_len (w.group + 1) (group - (w.group + 1))) w.items (answers_in (first base batch ordered) p.start p.order ++ []) =
      (p.order, [], steps_interleave w p done, subst (λ (m : Items). groups_run base batch ordered m (range_with_len (w.group + 1) (group - (w.group + 1))) w.items []) p.items empty, refl) in
      subst (λ (gs : List ℕ). groups_run base batch ordered (alive base.items (moment_of base batch)) gs w.items (answers_now w p))
      (ap (λ k. range_with_len 0 w.group ++ range_with_len k (suc (group - (w.group + 1)))) from ∙ sym (range_parts 0 w.group (suc (group - (w.group + 1)))) ∙ ap (range_with_len 0) count)
      (groups_append (λ g. map (steps_in batch ordered g) there) (first base batch ordered) (alive base.items (moment_of base batch)) p.start w.items (range_with_len 0 w.group) (w.group ∷ range_with_len (w.group + 1) (group - (w.group + 1))) p.earlier (answers_in (first base batch ordered) p.start p.order ++ []) p.groups one)

  partial-moved : (w : Progress) (group : ℕ) → Partial base batch ordered w → IsTrue (is_group_done w) → IsNextGroup w.running (Some w.group) group
      → Partial base batch ordered (record { items = w.items; running = w.running; group = group })
  partial-moved w group p done next = record {
    same = p.same;
    start = w.items;
    earlier = answers_now w p;
    order = [];
    groups = groups_to w p done group above (λ i r at l.
        let x = running_of w p i r at in
        omega (arith, x.2, least i x.0 x.1 (omega (arith, x.2, l))));
    items = refl;
    interleaves = none_made base batch ordered group w.running (λ i x at e. p.above i x at (omega (arith, e, above)));
    answers = λ i x at. p.answers i x at ∙ ap (answers_at x.place) (answers_same w p ∙ sym (append-nil (answers_now w p)));
    above = λ i x at l. p.above i x at (omega (arith, l, above));
    below = λ i x at l. by_group i x at l (cases_order x.group w.group);
    within = p.within;
    places = p.places;
  }
    where
      above : w.group < group
      above = ltb-true w.group group next.above

      least : Each (λ (y : BatchRequest). w.group < y.group → group ≤ y.group) w.running
      least i x at l = each-of-all (λ (y : BatchRequest). comes_after (Some w.group) y.group ≡ true → group ≤ y.group) w.running next.least i x at (lt-ltb w.group x.group l)

      by_group : (i : ℕ) (x : BatchRequest) → slice_get w.running i ≡ Some x → x.group < group → (x.group ≡ w.group) ⊎ ((x.group < w.group) ⊎ (w.group < x.group)) → length x.steps ≤ length x.answers
      by_group i x at l (inl same) = group_is_done w done i x at same
      by_group i x at l (inr (inl low)) = p.below i x at low
      by_group i x at l (inr (inr high)) = absurd (omega (arith, l, least i x at high))

  pub worked-partial : (w : Progress) → Worked base batch ordered w → Partial base batch ordered w
  worked-partial w (began group least) = partial-began group least
  worked-partial w (stepped old now place h m) = partial-stepped old now place (worked-partial old h) m
  worked-partial w (moved old group h done next) = partial-moved old group (worked-partial old h) done next

  -- ---- the end of the work

  zip_replied : (answers : List (ℕ × Answer)) (rs : List Runner) (running : List BatchRequest) → map forget running ≡ map (begun batch ordered) rs → Each (λ x. x.answers ≡ answers_at x.place answers) running
      → map (λ both. replied both.0 both.1) (zip rs running) ≡ map (answered answers) rs
  zip_replied answers [] running e h = refl
  zip_replied answers (r ∷ rs) [] e h = absurd (cc e)
  zip_replied answers (r ∷ rs) (x ∷ running) e h =
      let head : forget x ≡ begun batch ordered r = cc e in
      let tail : map forget running ≡ map (begun batch ordered) rs = cc e in
      let place : x.place ≡ r.0 = ap (λ (y : BatchRequest). y.place) head in
      let own : x.answers ≡ answers_at r.0 answers = h 0 x refl ∙ ap (λ k. answers_at k answers) place in
      let others = zip_replied answers rs running tail (λ i. h (suc i)) in
      (λ i. record { place = r.0; client = r.1.client; number = r.1.number; reply = reply r.1.command (own i) } ∷ others i)

  pub done_is_round : (w : Progress) → Worked base batch ordered w → IsTrue (is_group_done w) → IsLast w.running (Some w.group)
      → Round base batch ordered (state_made base batch w) (replies_of base batch w.running)
  done_is_round w worked done last =
      let p = worked-partial w worked in
      let low : Each (λ r. group_of batch ordered r < w.group + 1) there = λ i r at.
      (let x = running_of w p i r at in omega (arith, x.2, ltb-false w.group x.0.group (each-of-all (λ (y : BatchRequest). comes_after (Some w.group) y.group ≡ false) w.running last i x.0 x.1))) in
      record {
        groups = w.group + 1;
        all_run = all-of-each (λ r. group_of batch ordered r < w.group + 1) there low;
        answers = answers_now w p;
        run = groups_to w p done (w.group + 1) (omega arith) (λ i r at l. absurd (omega (arith, l, low i r at)));
        replied = zip_replied (answers_now w p) there w.running p.same (λ i x at. p.answers i x at ∙ ap (answers_at x.place) (answers_same w p));
        sessions = refl;
        moment = refl;
        form = refl;
        number = refl;
        previous = refl;
        epoch = refl;
        batch_is = refl;
        token = refl;
      }

  -- if no request runs, the batch is done at once
  pub nothing_is_round : (group : ℕ) → all_begun base batch ordered ≡ [] → Round base batch ordered (state_made base batch (started base batch ordered 0)) []
  nothing_is_round group none =
      let w = started base batch ordered 0 in
      let no_one : (P : BatchRequest → Type 0) → All P (all_begun base batch ordered) = λ P i d l. absurd (omega (arith, l, ap length none)) in
      let worked : Worked base batch ordered w = began 0 (no_one (λ r. 0 ≤ r.group)) in
      let done : is_group_done w ≡ true = ap (list_all (λ r. not (r.group == 0) || is_complete r)) none in
      let no_replies : replies_of base batch (all_begun base batch ordered) ≡ [] = ap (λ xs. map (λ both. replied both.0 both.1) (zip there xs)) none ∙ zip_nil there in
      subst (λ (rs : List Answered). Round base batch ordered (state_made base batch w) rs) no_replies (done_is_round w worked done (no_one (λ r. comes_after (Some 0) r.group ≡ false)))
    where
      zip_nil : (rs : List Runner) → map (λ (both : Runner × BatchRequest). replied both.0 both.1) (zip rs []) ≡ []
      zip_nil [] = refl
      zip_nil (r ∷ rs) = refl
