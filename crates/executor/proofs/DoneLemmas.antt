-- If all groups are done, each request has the answers that its reply is made of, and the sessions have a text.
use Rattle.std.proofs.Common.{◌≡◌, ℕ, zero, suc, ◌<◌, ◌≤◌, Bool, true, false, List, [], ◌∷◌, ◌++◌, map, length, set, Some, None, Option, refl, sym, ap, ◌∙◌, arith, subst, inl, inr, append_assoc}
use Rattle.std.specs.Prelude.{slice_get, All, IsTrue, IfSome, if◌then◌else◌, not, ◌&&◌, ◌==◌}
use Rattle.std.specs.List.{zip}
use Rattle.std.proofs.lemmas.List.Concat.{flat_map-cons}
use Rattle.std.proofs.Math.Nat.{eq-or-lt_of_le}
use Rattle.std.proofs.lemmas.Bool.{and_parts, eqb-true, ltb-false, not-true}
use Rattle.std.proofs.lemmas.Option.{slice_get_within}
use Rattle.items.specs.Map.{Items, alive}
use Rattle.item_steps.specs.Schedule.{stamped}
use Rattle.item_steps.specs.declared.step.Stamp.{Stamp}
use Rattle.item_steps.specs.Steps.{steps}
use Rattle.sessions.specs.declared.request.Request.{Request}
use Rattle.sessions.specs.Fresh.{Replies}
use Rattle.batches.specs.declared.batch.Batch.{Batch}
use Rattle.executor.specs.declared.answered.Answered.{Answered}
use Rattle.executor.specs.BatchRequest.{BatchRequest}
use Rattle.states.specs.State.{StateView}
use Rattle.executor.specs.Fresh.{Runner, runs, fresh_after}
use Rattle.states.specs.Followed.{moment_of}
use Rattle.executor.specs.Round.{runners, Round}
use Rattle.executor.specs.Work.{Progress, begun, all_begun, is_group_done, comes_after, IsFirst, IsNextGroup, IsLast, Worked, began, state_made, replied, replied_to, replies_of, replies_to, is_complete, is_ready, StepDone, WorkStep}
use Rattle.executor.proofs.PartialLemmas.{Each, each-of-all, all-of-each, forget}
use Rattle.round.proofs.Lists.{map_at}
use Rattle.executor.proofs.OrderLemmas.{found_at}
use Rattle.executor.proofs.RoundLemmas.{get_map}
use Rattle.executor.proofs.WorkedLemmas.{worked-partial, group_is_done, done_is_round}

get_middle : (earlier later : List Request) (q : Request) → slice_get (earlier ++ q ∷ later) (length earlier) ≡ Some q
get_middle [] later q = refl
get_middle (e ∷ earlier) later q = get_middle earlier later q

-- a request that runs is at its place in the batch
pub fresh_at : (s : Replies) (earlier later : List Request) (i : ℕ) (r : Runner) → slice_get (fresh_after s earlier later) i ≡ Some r → slice_get (earlier ++ later) r.0 ≡ Some r.1
fresh_at s earlier [] i r at = absurd (cc at)
fresh_at s earlier (q ∷ later) i r at = by (λ i at. subst (λ (all : List Request). slice_get all r.0 ≡ Some r.1) (append_assoc earlier (q ∷ []) later) (fresh_at s (earlier ++ q ∷ []) later i r at)) (runs s earlier q) i at
  where
    by : ((i : ℕ) → slice_get (fresh_after s (earlier ++ q ∷ []) later) i ≡ Some r → slice_get (earlier ++ q ∷ later) r.0 ≡ Some r.1)
        → (b : Bool) (i : ℕ) → slice_get ((if b then (length earlier, q) ∷ [] else []) ++ fresh_after s (earlier ++ q ∷ []) later) i ≡ Some r → slice_get (earlier ++ q ∷ later) r.0 ≡ Some r.1
    by others true zero at =
        let e : ◌≡◌ {A = Runner} (length earlier, q) r = cc at in
        subst (λ (o : Runner). slice_get (earlier ++ q ∷ later) o.0 ≡ Some o.1) e (get_middle earlier later q)
    by others true (suc i) at = others i at
    by others false i at = others i at

module _ (base : StateView) (batch : Batch) (ordered : Bool) where
  -- the replies by place are those of the requests that run
  replies_by_place : (rs : List Runner) (running : List BatchRequest) → map forget running ≡ map (begun batch ordered) rs → Each (λ r. slice_get batch.requests r.0 ≡ Some r.1) rs
      → replies_to batch.requests running ≡ map (λ both. replied both.0 both.1) (zip rs running)
  replies_by_place [] [] e h = refl
  replies_by_place [] (x ∷ running) e h = absurd (cc e)
  replies_by_place (r ∷ rs) [] e h = absurd (cc e)
  replies_by_place (r ∷ rs) (x ∷ running) e h =
      let head : forget x ≡ begun batch ordered r = cc e in
      let tail : map forget running ≡ map (begun batch ordered) rs = cc e in
      let place : x.place ≡ r.0 = ap (λ (y : BatchRequest). y.place) head in
      let found : slice_get batch.requests x.place ≡ Some r.1 = ap (slice_get batch.requests) place ∙ h 0 r refl in
      let one : replied_to x (slice_get batch.requests x.place) ≡ replied r x ∷ [] = ap (replied_to x) found ∙ ap (λ k. replied (k, r.1) x ∷ []) place in
      flat_map-cons (λ y. replied_to y (slice_get batch.requests y.place)) x running ∙ (λ i. one i ++ replies_by_place rs running tail (λ j. h (suc j)) i)

  each_at : Each (λ (r : Runner). slice_get batch.requests r.0 ≡ Some r.1) (runners base batch)
  each_at i r at = fresh_at base.sessions [] batch.requests i r at

  module _ (w : Progress) (worked : Worked base batch ordered w) where
    pub same_replies : replies_to batch.requests w.running ≡ replies_of base batch w.running
    same_replies = replies_by_place (runners base batch) w.running (worked-partial base batch ordered w worked).same each_at

    pub all_answered : IsTrue (is_group_done w) → IsLast w.running (Some w.group)
        → All (λ r. (request : Request) → slice_get batch.requests r.place ≡ Some request → length r.answers ≡ length (steps request.command)) w.running
    all_answered done last = all-of-each (λ r. (request : Request) → slice_get batch.requests r.place ≡ Some request → length r.answers ≡ length (steps request.command)) w.running (λ i x at request there.
        let p = worked-partial base batch ordered w worked in
        let r = get_map (begun batch ordered) (runners base batch) i (forget x) (ap (λ xs. slice_get xs i) (sym p.same) ∙ map_at forget w.running i x at) in
        let place : x.place ≡ r.0.0 = ap (λ (y : BatchRequest). y.place) r.2 in
        let own : ◌≡◌ {A = Option Request} (Some r.0.1) (Some request) = sym (each_at i r.0 r.1) ∙ ap (slice_get batch.requests) (sym place) ∙ there in
        let is : r.0.1 ≡ request = cc own in
        let same : x.steps ≡ steps request.command = ap (λ (y : BatchRequest). y.steps) r.2 ∙ ap (λ (q : Request). steps q.command) is in
        let low = ltb-false w.group x.group (each-of-all (λ (y : BatchRequest). comes_after (Some w.group) y.group ≡ false) w.running last i x at) in
        let long : length x.steps ≤ length x.answers = elim (eq-or-lt_of_le low) [ inl same ↦ group_is_done base batch ordered w done i x at same | inr below ↦ p.below i x at below ] in
        omega (arith, long, p.within i x at, ap length same))

-- what it is to be ready
pub ready_parts : (group place : ℕ) (r : BatchRequest) → is_ready group place r ≡ true → (r.place ≡ place) × (r.group ≡ group) × (is_complete r ≡ false)
ready_parts group place r ready =
    let parts = and_parts (r.place == place) ((r.group == group) && not (is_complete r)) ready in
    let more = and_parts (r.group == group) (not (is_complete r)) parts.1 in
    (eqb-true r.place place parts.0, eqb-true r.group group more.0, not-true (is_complete r) more.1)

-- a request that is ready has a step left, and makes it
pub step_made : (first : Stamp) (w : Progress) (place i : ℕ) (r now : BatchRequest) (after : Items) → slice_get w.running i ≡ Some r → is_ready w.group place r ≡ true → StepDone r w.items (stamped first place) now after
    → WorkStep first w place (record { items = after; running = set w.running i now; group = w.group })
step_made first w place i r now after at ready d =
    let parts = ready_parts w.group place r ready in
    record {
      index = i;
      request = r;
      step = d.step;
      there = at;
      its = parts.0;
      in_group = parts.1;
      next = d.next;
      now_is = λ k. record { items = d.items k; running = set w.running i (d.noted k); group = w.group };
    }

-- a request that runs has a place in the batch
pub place_within : (base : StateView) (batch : Batch) (ordered : Bool) (w : Progress) → Worked base batch ordered w → (i : ℕ) (x : BatchRequest) → slice_get w.running i ≡ Some x → x.place < length batch.requests
place_within base batch ordered w worked i x at =
    let p = worked-partial base batch ordered w worked in
    let r = get_map (begun batch ordered) (runners base batch) i (forget x) (ap (λ xs. slice_get xs i) (sym p.same) ∙ map_at forget w.running i x at) in
    let place : x.place ≡ r.0.0 = ap (λ (y : BatchRequest). y.place) r.2 in
    omega (arith, place, slice_get_within batch.requests r.0.0 r.0.1 (each_at base batch ordered i r.0 r.1))

-- the request that was found ready, in the list that was lent
pub found_ready : (running lent : List BatchRequest) (i group place : ℕ) → lent ≡ running → i < length lent → IfSome (slice_get lent i) (λ r. is_ready group place r ≡ true)
    → (r : BatchRequest) × (slice_get running i ≡ Some r) × (is_ready group place r ≡ true) × (i < length running)
found_ready running lent i group place same there ready =
    let found = found_at lent i there in (
      found.0,
      ap (λ xs. slice_get xs i) (sym same) ∙ found.1,
      subst (λ o. IfSome o (λ r. is_ready group place r ≡ true)) found.1 ready,
      subst (λ (xs : List BatchRequest). i < length xs) same there,
    )

-- a group that comes first
pub first_is : (running : List BatchRequest) (group : ℕ) → IsNextGroup running None group → IsFirst running group
first_is running group next k d l = next.least k d l refl

-- if no request runs in any group, none runs
pub none_run : (running : List BatchRequest) → IsLast running None → running ≡ []
none_run [] last = refl
none_run (x ∷ running) last = absurd (let e : true ≡ false = last 0 x (omega arith) in cc e)

-- work in which no request runs is done
pub none_done : (running : List BatchRequest) (items : Items) → running ≡ [] → is_group_done (record { items = items; running = running; group = 0 }) ≡ true
none_done running items e = ap (λ xs. is_group_done (record { items = items; running = xs; group = 0 })) e

pub none_first : (running : List BatchRequest) → running ≡ [] → IsFirst running 0
none_first running e k d l = absurd (omega (arith, l, ap length e))

pub none_last : (running : List BatchRequest) → running ≡ [] → IsLast running (Some 0)
none_last running e k d l = absurd (omega (arith, l, ap length e))

-- what drops what is due and begins all requests is work
pub started_work : (base : StateView) (batch : Batch) (ordered : Bool) (group : ℕ) (items : Items) (running : List BatchRequest) → items ≡ alive base.items (moment_of base batch) → running ≡ all_begun base batch ordered → IsFirst running group
    → Worked base batch ordered (record { items = items; running = running; group = group })
started_work base batch ordered group items running same all first =
    subst (λ (w : Progress). Worked base batch ordered w) (λ i. record { items = sym same i; running = sym all i; group = group })
    (began group (subst (λ (rs : List BatchRequest). IsFirst rs group) all first))

-- what is completed is a round
pub completed : (base : StateView) (batch : Batch) (ordered : Bool) (w : Progress) → Worked base batch ordered w → IsTrue (is_group_done w) → IsLast w.running (Some w.group)
    → (after : StateView) (replies : List Answered) → after ≡ state_made base batch w → replies ≡ replies_of base batch w.running → Round base batch ordered after replies
completed base batch ordered w worked done last after replies e f =
    subst (λ (s : StateView). Round base batch ordered s replies) (sym e) (subst (λ (rs : List Answered). Round base batch ordered (state_made base batch w) rs) (sym f) (done_is_round base batch ordered w worked done last))
