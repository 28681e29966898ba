-- What workers are given and what they leave: the requests of a group are such as a round takes, and refreshed pages are the same.
use Rattle.std.proofs.Common.{◌≡◌, ◌≢◌, ℕ, suc, ◌+◌, ◌<◌, ◌≤◌, ◌^◌, Bool, true, false, cond, List, [], ◌∷◌, ◌++◌, map, length, take, drop, get_or, Some, refl, sym, ap, ◌∙◌, arith}
use Rattle.std.specs.Prelude.{slice_get, filter, not, nat_le, nat_lt, ◌==◌, if◌then◌else◌}
use Rattle.std.specs.List.{list_all}
use Rattle.std.proofs.lemmas.Bool.{and_from, le-leb, lt-ltb, ne_eqb}
use Rattle.std.proofs.lemmas.List.{take_at, length-map, map-append, append_assoc, drop_more, take_more}
use Rattle.std.proofs.lemmas.List.Elements.{All-push}
use Rattle.items.specs.Map.{Items}
use Rattle.item_steps.specs.Schedule.{stamped}
use Rattle.item_steps.specs.declared.group.Task.{Task}
use Rattle.item_steps.specs.declared.step.Stamp.{Stamp}
use Rattle.sessions.specs.declared.request.Request.{Request}
use Rattle.sessions.specs.Fresh.{Replies}
use Rattle.batches.specs.declared.batch.Batch.{Batch}
use Rattle.pages.specs.Page.{PageState, refreshed}
use Rattle.pages.specs.Joined.{parts, items_of}
use Rattle.round.specs.Sittings.{task_fits, are_apart, group_fits}
use Rattle.round.specs.declared.open.TheConstants.{MOST_TASKS, MOST_STEPS}
use Rattle.executor.specs.BatchRequest.{BatchRequest, HaveFewSteps}
use Rattle.states.specs.State.{StateView}
use Rattle.executor.specs.Fresh.{Runner, fresh_after, runner_at, runs}
use Rattle.executor.specs.Round.{first_place, runners}
use Rattle.executor.specs.Work.{Progress, Worked, all_begun, begun}
use Rattle.executor.specs.GroupRun.{task_of_request, tasks_in}
use Rattle.executor.proofs.PartialLemmas.{Each, each-of-all, forget, Partial}
use Rattle.round.proofs.Lists.{map_at}
use Rattle.executor.proofs.WorkedLemmas.{worked-partial}
use Rattle.executor.proofs.DoneLemmas.{place_within}

module _ (base : Stamp) (group : ℕ) where
  -- each request of the group
  all_fit : (rs : List BatchRequest) → Each (λ r. task_fits base (task_of_request r) ≡ true) rs → list_all (task_fits base) (tasks_in group rs) ≡ true
  all_fit [] fit = refl
  all_fit (r ∷ rs) fit = elim (r.group == group) as (λ b. list_all (task_fits base) (map task_of_request (cond b (r ∷ filter (λ x. x.group == group) rs) (filter (λ x. x.group == group) rs))) ≡ true) [
    | true ↦ and_from (task_fits base (task_of_request r)) _ (fit 0 r refl) (all_fit rs (λ i. fit (suc i)))
    | false ↦ all_fit rs (λ i. fit (suc i))
  ]

  -- of another place than those of the group
  is_apart : (place : ℕ) (rs : List BatchRequest) → Each (λ r. r.place ≢ place) rs → list_all (λ other. not (other.place == place)) (tasks_in group rs) ≡ true
  is_apart place [] apart = refl
  is_apart place (r ∷ rs) apart =
      elim (r.group == group) as (λ b. list_all (λ other. not (other.place == place)) (map task_of_request (cond b (r ∷ filter (λ x. x.group == group) rs) (filter (λ x. x.group == group) rs))) ≡ true) [
        | true ↦ and_from (not (r.place == place)) _ (ap not (ne_eqb r.place place (apart 0 r refl))) (is_apart place rs (λ i. apart (suc i)))
        | false ↦ is_apart place rs (λ i. apart (suc i))
      ]

  all_apart : (rs : List BatchRequest) → ((i j : ℕ) (r s : BatchRequest) → slice_get rs i ≡ Some r → slice_get rs j ≡ Some s → r.place ≡ s.place → i ≡ j) → are_apart (tasks_in group rs) ≡ true
  all_apart [] places = refl
  all_apart (r ∷ rs) places =
      let later = all_apart rs (λ i j x y at there e. let one = places (suc i) (suc j) x y at there e in omega arith) in
      elim (r.group == group) as (λ b. are_apart (map task_of_request (cond b (r ∷ filter (λ x. x.group == group) rs) (filter (λ x. x.group == group) rs))) ≡ true) [
        | true ↦ and_from _ _ (is_apart r.place rs (λ i x at e. let one = places 0 (suc i) r x refl at (sym e) in omega arith)) later
        | false ↦ later
      ]

  no_more : (rs : List BatchRequest) → length (tasks_in group rs) ≤ length rs
  no_more [] = omega arith
  no_more (r ∷ rs) = elim (r.group == group) as (λ b. length (map task_of_request (cond b (r ∷ filter (λ x. x.group == group) rs) (filter (λ x. x.group == group) rs))) ≤ suc (length rs)) [
    | true ↦ omega (arith, no_more rs)
    | false ↦ omega (arith, no_more rs)
  ]

fresh_few : (s : Replies) (earlier later : List Request) → length (fresh_after s earlier later) ≤ length later
fresh_few s earlier [] = omega arith
fresh_few s earlier (q ∷ later) =
    elim (runs s earlier q) as (λ b. length ((if b then (length earlier, q) ∷ [] else []) ++ fresh_after s (earlier ++ q ∷ []) later) ≤ suc (length later)) [
      | true ↦ omega (arith, fresh_few s (earlier ++ q ∷ []) later)
      | false ↦ omega (arith, fresh_few s (earlier ++ q ∷ []) later)
    ]

-- a group of a batch within the limits of a record, each of whose requests has few steps
pub tasks_fit : (base : StateView) (batch : Batch) (ordered : Bool) (w : Progress) → Worked base batch ordered w → HaveFewSteps (all_begun base batch ordered)
    → (first : Stamp) → first ≡ stamped (first_place base batch) 0 → (tasks : List Task) → tasks ≡ tasks_in w.group w.running → group_fits first tasks ≡ true
tasks_fit base batch ordered w worked few first at tasks are =
    (λ i. group_fits (at i) (are i)) ∙ and_from _ _ (le-leb _ MOST_TASKS most) (and_from _ _ (all_fit place w.group w.running each) (all_apart place w.group w.running p.places))
  where
    place : Stamp
    place = stamped (first_place base batch) 0

    p : Partial base batch ordered w
    p = worked-partial base batch ordered w worked

    count : length w.running ≡ length (runners base batch)
    count = sym (length-map w.running forget) ∙ ap length p.same ∙ length-map (runners base batch) (begun batch ordered)

    most : length (tasks_in w.group w.running) ≤ MOST_TASKS
    most = omega (arith, no_more place w.group w.running, count, fresh_few base.sessions [] batch.requests, batch.few)

    -- its steps are those that it began with
    steps_few : (i : ℕ) (x : BatchRequest) → slice_get w.running i ≡ Some x → length x.steps ≤ MOST_STEPS
    steps_few i x there = each-of-all (λ (r : BatchRequest). length r.steps ≤ MOST_STEPS) (all_begun base batch ordered) few i (forget x) (ap (λ xs. slice_get xs i) (sym p.same) ∙ map_at forget w.running i x there)

    stamp : (i : ℕ) (x : BatchRequest) → slice_get w.running i ≡ Some x → place.stamp + x.place < 2 ^ 64
    stamp i x there = omega (arith, batch.last, batch.few, place_within base batch ordered w worked i x there)

    each : Each (λ r. task_fits place (task_of_request r) ≡ true) w.running
    each i x there = and_from (nat_le (length x.steps) MOST_STEPS) (nat_lt (place.stamp + x.place) (2 ^ 64)) (le-leb (length x.steps) MOST_STEPS (steps_few i x there)) (lt-ltb (place.stamp + x.place) (2 ^ 64) (stamp i x there))

-- the items of pages that were lent to be refreshed
pub same_parts : (m : Items) (old : List PageState) (n : ℕ) (new : List PageState) → items_of old ≡ parts m → n ≡ length old → new ≡ map refreshed old
    → items_of (take n (new ++ drop (length new) old)) ≡ parts m
same_parts m old n new are len is = ap items_of (take_at new (drop (length new) old) n (ap length is ∙ length-map old refreshed ∙ sym len) ∙ is) ∙ same_items old ∙ are
  where
    same_items : (pages : List PageState) → items_of (map refreshed pages) ≡ items_of pages
    same_items [] = refl
    same_items (page ∷ pages) = ap (λ ms. page.items ∷ ms) (same_items pages)

pub few_push : (rs : List BatchRequest) (r : BatchRequest) → HaveFewSteps rs → length r.steps ≤ MOST_STEPS → HaveFewSteps (rs ++ r ∷ [])
few_push rs r few one = All-push (λ (x : BatchRequest). length x.steps ≤ MOST_STEPS) rs r few one

-- one request more was begun
pub begun_more : (f : Runner → BatchRequest) (s : Replies) (requests : List Request) (place : ℕ) (r : Request) (old new all : List BatchRequest) → place < length requests → r ≡ get_or requests place r
    → new ≡ old ++ map f (runner_at s (take place requests) (length (take place requests)) r) → old ++ map f (fresh_after s (take place requests) (drop place requests)) ≡ all
    → new ++ map f (fresh_after s (take (place + 1) requests) (drop (place + 1) requests)) ≡ all
begun_more f s requests place r old new all within at is so_far =
    let rest : drop place requests ≡ r ∷ drop (place + 1) requests = drop_more requests place r within ∙ ap (λ (x : Request). x ∷ drop (place + 1) requests) (sym at) in
    let front : take (place + 1) requests ≡ take place requests ++ r ∷ [] = take_more requests place r within ∙ ap (λ (x : Request). take place requests ++ x ∷ []) (sym at) in
    let own = runner_at s (take place requests) (length (take place requests)) r in
    let later = fresh_after s (take place requests ++ r ∷ []) (drop (place + 1) requests) in
    (λ i. is i ++ map f (fresh_after s (front i) (drop (place + 1) requests)))
    ∙ append_assoc old (map f own) (map f later)
    ∙ ap (λ xs. old ++ xs) (sym (map-append f own later))
    ∙ ap (λ xs. old ++ map f xs) (sym (ap (fresh_after s (take place requests)) rest)) ∙ so_far
