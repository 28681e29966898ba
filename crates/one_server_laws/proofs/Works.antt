-- Work that goes on stays over the tip, and what it comes to is a member over the tip.
use Rattle.std.proofs.Common.{◌≡◌, ℕ, suc, ◌+◌, Bool, true, false, List, [], ◌∷◌, ◌++◌, length, Option, Some, None, refl, sym, ◌∙◌, ap, subst}
use Rattle.std.specs.Prelude.{IsTrue, slice_get, slice_set, option_map}
use Rattle.std.proofs.lemmas.Bool.{cond-true, cond-false, leb-false}
use Rattle.items.specs.Map.{Items}
use Rattle.item_steps.specs.Effect.{effect}
use Rattle.item_steps.specs.Schedule.{stamped}
use Rattle.item_steps.specs.declared.step.Stamp.{Stamp}
use Rattle.item_steps.specs.declared.step.Step.{Step}
use Rattle.batches.specs.declared.batch.Batch.{Batch}
use Rattle.states.specs.State.{StateView}
use Rattle.executor.specs.declared.work.Ended.{Ended}
use Rattle.executor.specs.declared.work.Ended.TheVariants.{On, Done}
use Rattle.executor.specs.BatchRequest.{BatchRequest}
use Rattle.executor.specs.Round.{first_place}
use Rattle.executor.specs.StepOf.{with_step, step_in, step_of}
use Rattle.executor.specs.Work.{WorkView, Progress, Worked, began, stepped, moved, IsLast, is_group_done, is_ready, next_step, least_of, all_begun, started, tentative_of}
use Rattle.executor.proofs.DoneLemmas.{ready_parts, first_is, none_run, none_done, none_first, none_last}
use Rattle.executor.proofs.GroupLemmas.{least_is_next, none_is_last}
use Rattle.executor.proofs.WorkedLemmas.{done_is_round}
use Rattle.rollback.specs.Chain.{tip}
use Rattle.exec_lines.specs.Begun.{begun_at, begin_of, moved_on}
use Rattle.custody_laws.specs.Durable.{Durable, IsMember}
use Rattle.worlds.proofs.SlotLemmas.{get_within}
use Rattle.one_server_laws.specs.Machines.{IsWorkOver}

-- what work comes to: it goes on, or a member is made over the tip
abbrev pub Comes : Durable → Ended → Type 0
Comes x (On w) = IsWorkOver x w
Comes x (Done t) = IsMember x.standing.epoch (tip x.have x.chain) t × (x.have.number ≡ x.standing.n)

-- work that has come to its end makes a member
member_of : (epoch : ℕ) (base : StateView) (batch : Batch) (ordered : Bool) (p : Progress) → Worked base batch ordered p → IsTrue (is_group_done p) → IsLast p.running (Some p.group) → batch.n ≡ base.number + 1 → batch.epoch ≡ epoch
    → IsMember epoch base (tentative_of (record { base = base; batch = batch; ordered = ordered; progress = p }))
member_of epoch base batch ordered p worked done last next of_epoch = record {
  ordered = ordered;
  over = refl;
  is_round = record { next = next; round = done_is_round base batch ordered p worked done last };
  of_epoch = of_epoch;
}

-- a batch that is begun
pub begun_comes : (x : Durable) (b : Batch) (ordered : Bool) → x.have.number ≡ x.standing.n → b.epoch ≡ x.standing.epoch → b.n ≡ (tip x.have x.chain).number + 1 → Comes x (begin_of (tip x.have x.chain) b ordered)
begun_comes x b ordered level of_epoch next = by (least_of None None (all_begun (tip x.have x.chain) b ordered)) refl
  where
    by : (o : Option ℕ) → least_of None None (all_begun (tip x.have x.chain) b ordered) ≡ o → Comes x (begun_at (tip x.have x.chain) b ordered o)
    by None e =
        let running = all_begun (tip x.have x.chain) b ordered in
        let empty : running ≡ [] = none_run running (none_is_last None running e) in (
          member_of x.standing.epoch (tip x.have x.chain) b ordered (started (tip x.have x.chain) b ordered 0) (began 0 (none_first running empty)) (none_done running (started (tip x.have x.chain) b ordered 0).items empty) (none_last running empty) next of_epoch,
          level,
        )
    by (Some group) e = record {
      over = refl;
      worked = began group (first_is (all_begun (tip x.have x.chain) b ordered) group (least_is_next None (all_begun (tip x.have x.chain) b ordered) group e));
      next = next;
      of_epoch = of_epoch;
      level = level;
    }

-- the end of a group, or of the work
pub moved_comes : (x : Durable) (w : WorkView) → IsWorkOver x w → IsTrue (is_group_done w.progress) → Comes x (moved_on w (least_of (Some w.progress.group) None w.progress.running))
moved_comes x w ok done = by (least_of (Some w.progress.group) None w.progress.running) refl
  where
    by : (o : Option ℕ) → least_of (Some w.progress.group) None w.progress.running ≡ o → Comes x (moved_on w o)
    by None e = (
      subst (λ (base : StateView). IsMember x.standing.epoch base (tentative_of w)) ok.over
          (member_of x.standing.epoch w.base w.batch w.ordered w.progress ok.worked done (none_is_last (Some w.progress.group) w.progress.running e) ok.next ok.of_epoch),
      ok.level,
    )
    by (Some group) e = record {
      over = ok.over;
      worked = moved w.progress group ok.worked done (least_is_next (Some w.progress.group) w.progress.running group e);
      next = ok.next;
      of_epoch = ok.of_epoch;
      level = ok.level;
    }

-- ---- a step

-- the request that makes the step, and what it leaves
record StepIn (at : Stamp) (group place : ℕ) (m : Items) (rs : List BatchRequest) (out : Items × List BatchRequest) : Type 0 where
  index : ℕ
  request : BatchRequest
  step : Step
  there : slice_get rs index ≡ Some request
  ready : is_ready group place request ≡ true
  next : next_step request ≡ Some step
  items : out.0 ≡ (effect m step at).0
  running : out.1 ≡ slice_set rs index (record request { answers = request.answers ++ (effect m step at).1 ∷ [] })

-- a request that is ready has a step left
has_next : (group place : ℕ) (r : BatchRequest) → is_ready group place r ≡ true → next_step r ≡ None → ⊥
has_next group place r ready none =
    let left = (ready_parts group place r ready).2 in
    let more = get_within r.steps (length r.answers) (leb-false (length r.steps) (length r.answers) left) in
    let clash : ◌≡◌ {A = Option Step} None (Some more.0) = sym none ∙ more.1 in
    cc clash

step_in_made : (first : Stamp) (group place : ℕ) (m : Items) (rs : List BatchRequest) (out : Items × List BatchRequest) → step_in first group place m rs ≡ Some out → StepIn (stamped first place) group place m rs out
step_in_made first group place m [] out e = absurd (cc e)
step_in_made first group place m (r ∷ rs) out e = by (is_ready group place r) refl (λ s some. step_in_made first group place m rs s some)
  where
    ready_now : is_ready group place r ≡ true → (o : Option Step) → next_step r ≡ o → StepIn (stamped first place) group place m (r ∷ rs) out
    ready_now ready None none = absurd (has_next group place r ready none)
    ready_now ready (Some step) next =
        let made : ◌≡◌ {A = Option (Items × List BatchRequest)} (Some ((effect m step (stamped first place)).0, record r { answers = r.answers ++ (effect m step (stamped first place)).1 ∷ [] } ∷ rs)) (Some out) =
        ap (λ (o : Option Step). Some ((with_step (stamped first place) m r o).0, (with_step (stamped first place) m r o).1 ∷ rs)) (sym next) ∙ (sym (cond-true (is_ready group place r) _ _ ready) ∙ e) in
        let is : ◌≡◌ {A = Items × List BatchRequest} ((effect m step (stamped first place)).0, record r { answers = r.answers ++ (effect m step (stamped first place)).1 ∷ [] } ∷ rs) out = cc made in
        record {
          index = 0;
          request = r;
          step = step;
          there = refl;
          ready = ready;
          next = next;
          items = ap (λ (q : Items × List BatchRequest). q.0) (sym is);
          running = ap (λ (q : Items × List BatchRequest). q.1) (sym is);
        }

    among : is_ready group place r ≡ false → ((s : Items × List BatchRequest) → step_in first group place m rs ≡ Some s → StepIn (stamped first place) group place m rs s) → (o : Option (Items × List BatchRequest)) → step_in first group place m rs ≡ o → StepIn (stamped first place) group place m (r ∷ rs) out
    among other made_below None none =
        let clash : ◌≡◌ {A = Option (Items × List BatchRequest)} None (Some out) =
        ap (option_map (λ (s : Items × List BatchRequest). (s.0, r ∷ s.1))) (sym none) ∙ (sym (cond-false (is_ready group place r) _ _ other) ∙ e) in
        absurd (cc clash)
    among other made_below (Some s) some =
        let made : ◌≡◌ {A = Option (Items × List BatchRequest)} (Some (s.0, r ∷ s.1)) (Some out) =
        ap (option_map (λ (s : Items × List BatchRequest). (s.0, r ∷ s.1))) (sym some) ∙ (sym (cond-false (is_ready group place r) _ _ other) ∙ e) in
        let is : ◌≡◌ {A = Items × List BatchRequest} (s.0, r ∷ s.1) out = cc made in
        let rest = made_below s some in
        record {
          index = suc rest.index;
          request = rest.request;
          step = rest.step;
          there = rest.there;
          ready = rest.ready;
          next = rest.next;
          items = ap (λ (q : Items × List BatchRequest). q.0) (sym is) ∙ rest.items;
          running = ap (λ (q : Items × List BatchRequest). q.1) (sym is) ∙ ap (λ (q : List BatchRequest). r ∷ q) rest.running;
        }

    by : (b : Bool) → is_ready group place r ≡ b → ((s : Items × List BatchRequest) → step_in first group place m rs ≡ Some s → StepIn (stamped first place) group place m rs s) → StepIn (stamped first place) group place m (r ∷ rs) out
    by true ready made_below = ready_now ready (next_step r) refl
    by false other made_below = among other made_below (step_in first group place m rs) refl

abbrev with_progress : WorkView → Items × List BatchRequest → WorkView
with_progress w s = record w { progress = record { items = s.0; running = s.1; group = w.progress.group } }

-- the work after a step at this place
pub stepped_comes : (x : Durable) (w now : WorkView) (place : ℕ) → IsWorkOver x w → step_of w place ≡ Some now → IsWorkOver x now
stepped_comes x w now place ok e = by (step_in (first_place w.base w.batch) w.progress.group place w.progress.items w.progress.running) refl
  where
    by : (o : Option (Items × List BatchRequest)) → step_in (first_place w.base w.batch) w.progress.group place w.progress.items w.progress.running ≡ o → IsWorkOver x now
    by None none = let clash : ◌≡◌ {A = Option WorkView} None (Some now) = ap (option_map (with_progress w)) (sym none) ∙ e in absurd (cc clash)
    by (Some s) some =
        let made : ◌≡◌ {A = Option WorkView} (Some (with_progress w s)) (Some now) = ap (option_map (with_progress w)) (sym some) ∙ e in
        let is : with_progress w s ≡ now = cc made in
        let one = step_in_made (first_place w.base w.batch) w.progress.group place w.progress.items w.progress.running s some in
        let parts = ready_parts w.progress.group place one.request one.ready in
        subst (IsWorkOver x) is (record {
          over = ok.over;
          worked = stepped w.progress (record { items = s.0; running = s.1; group = w.progress.group }) place ok.worked (record {
            index = one.index;
            request = one.request;
            step = one.step;
            there = one.there;
            its = parts.0;
            in_group = parts.1;
            next = one.next;
            now_is = λ i. record { items = one.items i; running = one.running i; group = w.progress.group };
          });
          next = ok.next;
          of_epoch = ok.of_epoch;
          level = ok.level;
        })
