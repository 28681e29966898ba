-- What a round makes for one client.
use Rattle.std.proofs.Common.{◌≡◌, ◌≢◌, ℕ, ℤ, zero, suc, ◌+◌, ◌<◌, ◌≤◌, ◌⊎◌, inl, inr, Bool, true, false, List, [], ◌∷◌, ◌++◌, map, length, Some, Option, refl, sym, ap, ◌∙◌, subst, arith, append_assoc}
use Rattle.std.specs.Prelude.{slice_get, filter, flat_map, Contains, ◌==◌, if◌then◌else◌}
use Rattle.std.specs.List.{AllByRecursion, range_with_len}
use Rattle.std.specs.Option.{option_map_or}
use Rattle.std.proofs.lemmas.Bool.{ne_eqb, eq-eqb}
use Rattle.std.proofs.lemmas.List.{map-append, length-append}
use Rattle.std.proofs.Math.Nat.{le-max_right}
use Rattle.std.proofs.lemmas.List.Elements.{Contains-append_cases, filter-append}
use Rattle.round.proofs.Lists.{same_element, map_at}
use Rattle.executor.proofs.OrderLemmas.{same_or_not}
use Rattle.executor.proofs.PartialLemmas.{each-of-all}
use Rattle.executor.proofs.RoundLemmas.{get_map, answers_at-append, fresh_apart}
use Rattle.items.specs.Map.{Items, alive}
use Rattle.item_steps.specs.Effect.{effect}
use Rattle.item_steps.specs.Steps.{steps, reads, touching_reads, reply}
use Rattle.item_steps.specs.declared.step.Step.TheVariants as step
use Rattle.proto.specs.declared.command.Command.{Command}
use Rattle.proto.specs.declared.command.Command.TheVariants as command
use Rattle.proto.specs.declared.command.Update.{Update}
use Rattle.batches.specs.Stamp.{first_stamp}
use Rattle.batches.specs.declared.batch.TheConstants.{MOST_REQUESTS}
use Rattle.item_steps.specs.Schedule.{Placed, stamped, items_after, answers_in, answers_at, IsInterleaving}
use Rattle.item_steps.specs.declared.step.Stamp.{Stamp}
use Rattle.item_steps.specs.declared.step.Step.{Step}
use Rattle.item_steps.specs.declared.step.Answer.{Answer}
use Rattle.sessions.specs.declared.request.Request.{Request}
use Rattle.sessions.specs.Fresh.{Replies}
use Rattle.batches.specs.declared.batch.Batch.{Batch}
use Rattle.states.specs.State.{StateView}
use Rattle.states.specs.Followed.{moment_of}
use Rattle.executor.specs.declared.answered.Answered.{Answered}
use Rattle.executor.specs.Fresh.{Runner, fresh_after}
use Rattle.executor.specs.Round.{runners, first_place, steps_in, group_of, GroupsRun, Round, answered}
use Rattle.run_laws.specs.Run.{Executed, IsOver}
use Rattle.run_laws.proofs.Elements.{in_head, in_tail, in_none, first_or_other, in_map}
use Rattle.memcached_spec.specs.Server.{Made, Line, Tick, Do, Leads, made_for, uniques, unique_of}
use Rattle.linear_laws.specs.Laws.{seen}
use Rattle.run_laws.proofs.Replies.{one_runs, first_or_later}
use Rattle.linear_laws.proofs.Orders.{order_each, order_only, filter_none, once_among}
use Rattle.linear_laws.proofs.Flat.{at, lines_in, line_of, leads_on, order_leads}

-- ---- lines of orders and of groups

groups_lines : (who : ℕ → ℕ) (f : ℕ → List (List Placed)) (base : Stamp) (m : Items) (groups : List ℕ) (now : Items) (answers : List (ℕ × Answer)) → GroupsRun f base m groups now answers → List Line
groups_lines who f base m [] now answers run = []
groups_lines who f base m (g ∷ groups) now answers run = lines_in who base m run.0 ++ groups_lines who f base (items_after base m run.0) groups now run.1 run.3

lines_lead : (who : ℕ → ℕ) (f : ℕ → List (List Placed)) (base : Stamp) (m : Items) (groups : List ℕ) (now : Items) (answers : List (ℕ × Answer)) (run : GroupsRun f base m groups now answers)
    → Leads (at m base.moment) (groups_lines who f base m groups now answers run) (at now base.moment)
unfolding groups_lines
lines_lead who f base m [] now answers run = ap (λ (x : Items). at x base.moment) (sym run.0)
lines_lead who f base m (g ∷ groups) now answers run =
    leads_on (lines_in who base m run.0) (groups_lines who f base (items_after base m run.0) groups now run.1 run.3) (at m base.moment) (at (items_after base m run.0) base.moment) (at now base.moment)
    (order_leads who base m run.0) (lines_lead who f base (items_after base m run.0) groups now run.1 run.3)

same_tick : (m n : ℕ) → Tick m ≡ Tick n → m ≡ n
same_tick m n e = cc e

order_no_tick : (who : ℕ → ℕ) (base : Stamp) (m : Items) (order : List Placed) (t : ℕ) → Contains (lines_in who base m order) (Tick t) → ⊥
order_no_tick who base m [] t c = in_none (Tick t) c
order_no_tick who base m (s ∷ order) t c = elim (first_or_other (line_of who base m s) (Tick t) (lines_in who base (effect m s.1 (stamped base s.0)).0 order) c) [
  | inl e ↦ cc e
  | inr there ↦ order_no_tick who base (effect m s.1 (stamped base s.0)).0 order t there
]

groups_no_tick : (who : ℕ → ℕ) (f : ℕ → List (List Placed)) (base : Stamp) (m : Items) (groups : List ℕ) (now : Items) (answers : List (ℕ × Answer)) (run : GroupsRun f base m groups now answers) (t : ℕ)
    → Contains (groups_lines who f base m groups now answers run) (Tick t) → ⊥
unfolding groups_lines
groups_no_tick who f base m [] now answers run t c = in_none (Tick t) c
groups_no_tick who f base m (g ∷ groups) now answers run t c =
    elim (Contains-append_cases (lines_in who base m run.0) (groups_lines who f base (items_after base m run.0) groups now run.1 run.3) (Tick t) c) [
      | inl here ↦ order_no_tick who base m run.0 t here
      | inr there ↦ groups_no_tick who f base (items_after base m run.0) groups now run.1 run.3 t there
    ]

-- how often a number is in a list
abbrev pub count : ℕ → List ℕ → ℕ
count u xs = length (filter (λ x. x == u) xs)

pub uniques-append : (xs ys : List Line) → uniques (xs ++ ys) ≡ uniques xs ++ uniques ys
uniques-append [] ys = refl
uniques-append (Tick now ∷ xs) ys = uniques-append xs ys
uniques-append (Do d ∷ xs) ys = ap (λ l. unique_of d.step d.unique ++ l) (uniques-append xs ys) ∙ sym (append_assoc (unique_of d.step d.unique) (uniques xs) (uniques ys))

pub count-append : (u : ℕ) (xs ys : List ℕ) → count u (xs ++ ys) ≡ count u xs + count u ys
count-append u xs ys = ap length (filter-append (λ x. x == u) xs ys) ∙ length-append (filter (λ x. x == u) xs) (filter (λ x. x == u) ys)

-- how many of the steps are updates
abbrev updates_in : List Placed → ℕ
updates_in [] = 0
updates_in ((q, step.Read key) ∷ order) = updates_in order
updates_in ((q, step.ReadAndTouch key exptime) ∷ order) = updates_in order
updates_in ((q, step.Update u) ∷ order) = suc (updates_in order)

updates-append : (xs ys : List Placed) → updates_in (xs ++ ys) ≡ updates_in xs + updates_in ys
updates-append [] ys = omega arith
updates-append ((q, step.Read key) ∷ xs) ys = updates-append xs ys
updates-append ((q, step.ReadAndTouch key exptime) ∷ xs) ys = updates-append xs ys
updates-append ((q, step.Update u) ∷ xs) ys = let h = updates-append xs ys in omega (arith, h)

-- a read more changes nothing, whether it is kept or not
pick_read : (x : Placed) (xs : List Placed) → updates_in (x ∷ xs) ≡ updates_in xs → (b : Bool) → updates_in (if b then x ∷ xs else xs) ≡ updates_in xs
pick_read x xs h true = h
pick_read x xs h false = refl

pick_update : (q p : ℕ) (u : Update) (xs : List Placed) (v n : ℕ) (us : List ℕ) → (b c : Bool) → b ≡ c → count v us ≡ updates_in xs → length (if b then n ∷ filter (λ x. x == v) us else filter (λ x. x == v) us) ≡ updates_in (if c then (q, step.Update u) ∷ xs else xs)
pick_update q p u xs v n us true true e h = ap suc h
pick_update q p u xs v n us true false e h = absurd (cc e)
pick_update q p u xs v n us false true e h = absurd (cc e)
pick_update q p u xs v n us false false e h = h

same_test : (a q p u : ℕ) → a + p ≡ u → (a + q == u) ≡ (q == p)
same_test a q p u e = elim (same_or_not q p) [
  | inl same ↦ eq-eqb (a + q) u (omega (arith, e, same)) ∙ sym (eq-eqb q p same)
  | inr other ↦ ne_eqb (a + q) u (λ s. other (omega (arith, e, s))) ∙ sym (ne_eqb q p other)
]

-- a unique is there as often as the request of its place has updates
count_order : (who : ℕ → ℕ) (base : Stamp) (u p : ℕ) → base.stamp + p ≡ u → (m : Items) (order : List Placed) → count u (uniques (lines_in who base m order)) ≡ updates_in (filter (λ s. s.0 == p) order)
count_order who base u p at m [] = refl
count_order who base u p at m ((q, step.Read key) ∷ order) =
    count_order who base u p at (effect m (step.Read key) (stamped base q)).0 order ∙ sym (pick_read (q, step.Read key) (filter (λ s. s.0 == p) order) refl (q == p))
count_order who base u p at m ((q, step.ReadAndTouch key exptime) ∷ order) =
    count_order who base u p at (effect m (step.ReadAndTouch key exptime) (stamped base q)).0 order ∙ sym (pick_read (q, step.ReadAndTouch key exptime) (filter (λ s. s.0 == p) order) refl (q == p))
count_order who base u p at m ((q, step.Update c) ∷ order) =
    let next = (effect m (step.Update c) (stamped base q)).0 in
    pick_update q p c (filter (λ s. s.0 == p) order) u (base.stamp + q) (uniques (lines_in who base next order)) (base.stamp + q == u) (q == p) (same_test base.stamp q p u at) (count_order who base u p at next order)

count_groups : (who : ℕ → ℕ) (base : Stamp) (u p : ℕ) → base.stamp + p ≡ u → (f : ℕ → List (List Placed)) (own : ℕ → List Placed) → ((g : ℕ) (order : List Placed) → IsInterleaving (f g) order → filter (λ s. s.0 == p) order ≡ own g)
    → (m : Items) (groups : List ℕ) (now : Items) (answers : List (ℕ × Answer)) (run : GroupsRun f base m groups now answers)
    → count u (uniques (groups_lines who f base m groups now answers run)) ≡ updates_in (flat_map own groups)
unfolding groups_lines
count_groups who base u p at f own h m [] now answers run = refl
count_groups who base u p at f own h m (g ∷ groups) now answers run =
    let rest = groups_lines who f base (items_after base m run.0) groups now run.1 run.3 in
    let first = count_order who base u p at m run.0 ∙ ap updates_in (h g run.0 run.2) in
    let later = count_groups who base u p at f own h (items_after base m run.0) groups now run.1 run.3 in
    ap (count u) (uniques-append (lines_in who base m run.0) rest) ∙ count-append u (uniques (lines_in who base m run.0)) (uniques rest)
    ∙ (λ i. first i + later i) ∙ sym (updates-append (own g) (flat_map own groups))

-- uniques below the base are none
low_order : (who : ℕ → ℕ) (base : Stamp) (u : ℕ) → u < base.stamp → (m : Items) (order : List Placed) → count u (uniques (lines_in who base m order)) ≡ 0
low_order who base u low m [] = refl
low_order who base u low m ((q, step.Read key) ∷ order) = low_order who base u low (effect m (step.Read key) (stamped base q)).0 order
low_order who base u low m ((q, step.ReadAndTouch key exptime) ∷ order) = low_order who base u low (effect m (step.ReadAndTouch key exptime) (stamped base q)).0 order
low_order who base u low m ((q, step.Update c) ∷ order) =
    let next = (effect m (step.Update c) (stamped base q)).0 in
    let us = uniques (lines_in who base next order) in
    let other : (base.stamp + q == u) ≡ false = ne_eqb (base.stamp + q) u (λ e. omega (arith, low, e)) in
    ap (λ (b : Bool). length (if b then (base.stamp + q) ∷ filter (λ x. x == u) us else filter (λ x. x == u) us)) other ∙ low_order who base u low next order

low_groups : (who : ℕ → ℕ) (base : Stamp) (u : ℕ) → u < base.stamp → (f : ℕ → List (List Placed)) (m : Items) (groups : List ℕ) (now : Items) (answers : List (ℕ × Answer)) (run : GroupsRun f base m groups now answers)
    → count u (uniques (groups_lines who f base m groups now answers run)) ≡ 0
unfolding groups_lines
low_groups who base u low f m [] now answers run = refl
low_groups who base u low f m (g ∷ groups) now answers run =
    let rest = groups_lines who f base (items_after base m run.0) groups now run.1 run.3 in
    ap (count u) (uniques-append (lines_in who base m run.0) rest) ∙ count-append u (uniques (lines_in who base m run.0)) (uniques rest)
    ∙ (λ i. low_order who base u low m run.0 i + low_groups who base u low f (items_after base m run.0) groups now run.1 run.3 i)

-- a command has one update at most
few_reads : (p : ℕ) (keys : List (List ℕ)) → updates_in (map (λ step. (p, step)) (reads keys)) ≡ 0
few_reads p [] = refl
few_reads p (k ∷ keys) = few_reads p keys

few_touches : (p : ℕ) (exptime : ℤ) (keys : List (List ℕ)) → updates_in (map (λ step. (p, step)) (touching_reads exptime keys)) ≡ 0
few_touches p exptime [] = refl
few_touches p exptime (k ∷ keys) = few_touches p exptime keys

few_updates : (p : ℕ) (c : Command) → updates_in (map (λ step. (p, step)) (steps c)) ≤ 1
few_updates p (command.Get keys) = let e = few_reads p keys in omega (arith, e)
few_updates p (command.Gets keys) = let e = few_reads p keys in omega (arith, e)
few_updates p (command.Gat exptime keys) = let e = few_touches p exptime keys in omega (arith, e)
few_updates p (command.Gats exptime keys) = let e = few_touches p exptime keys in omega (arith, e)
few_updates p (command.Update u) = omega arith

pick_append : {X : Type 0} (x : X) (all xs ys : List X) → all ≡ xs ++ ys → (b : Bool) → (if b then x ∷ all else all) ≡ (if b then x ∷ xs else xs) ++ ys
pick_append {X} x all xs ys h true = ap (λ (l : List X). x ∷ l) h
pick_append x all xs ys h false = h

pub made_for-append : (c : ℕ) (xs ys : List Line) → made_for c (xs ++ ys) ≡ made_for c xs ++ made_for c ys
made_for-append c [] ys = refl
made_for-append c (Tick now ∷ xs) ys = made_for-append c xs ys
made_for-append c (Do d ∷ xs) ys = pick_append d (made_for c (xs ++ ys)) (made_for c xs) (made_for c ys) (made_for-append c xs ys) (d.client == c)

abbrev pub steps_made : ℕ → List Line → List Step
steps_made c lines = map (λ d. d.step) (made_for c lines)

abbrev pub answers_made : ℕ → List Line → List Answer
answers_made c lines = map (λ d. d.answer) (made_for c lines)

pick_map : {X Y Z : Type 0} (f : X → Z) (g : Y → Z) (x : X) (y : Y) (xs : List X) (ys : List Y) → f x ≡ g y → map f xs ≡ map g ys → (b : Bool) → map f (if b then x ∷ xs else xs) ≡ map g (if b then y ∷ ys else ys)
pick_map f g x y xs ys e h true = λ i. e i ∷ h i
pick_map f g x y xs ys e h false = h

abbrev made_of : (ℕ → ℕ) → Stamp → Items → Placed → Made
made_of who base m s = record { client = who s.0; step = s.1; unique = base.stamp + s.0; answer = (effect m s.1 (stamped base s.0)).1 }

module _ (who : ℕ → ℕ) (base : Stamp) (c : ℕ) where
  abbrev its : Placed → Bool
  its s = who s.0 == c

  order_steps : (m : Items) (order : List Placed) → steps_made c (lines_in who base m order) ≡ map (λ s. s.1) (filter its order)
  order_steps m [] = refl
  order_steps m (s ∷ order) =
      pick_map (λ (x : Made). x.step) (λ (x : Placed). x.1) (made_of who base m s) s (made_for c (lines_in who base (effect m s.1 (stamped base s.0)).0 order)) (filter its order) refl
      (order_steps (effect m s.1 (stamped base s.0)).0 order) (who s.0 == c)

  order_answers : (p : ℕ) (m : Items) (order : List Placed) → AllByRecursion (λ s. (who s.0 == c) ≡ (s.0 == p)) order → answers_made c (lines_in who base m order) ≡ answers_at p (answers_in base m order)
  order_answers p m [] h = refl
  order_answers p m (s ∷ order) h =
      let others : List (ℕ × Answer) = filter (λ a. a.0 == p) (answers_in base (effect m s.1 (stamped base s.0)).0 order) in
      let a : ℕ × Answer = (s.0, (effect m s.1 (stamped base s.0)).1) in
      subst (λ (b : Bool). answers_made c (lines_in who base m (s ∷ order)) ≡ map (λ (x : ℕ × Answer). x.1) (if b then a ∷ others else others)) h.0
      (pick_map (λ (x : Made). x.answer) (λ (x : ℕ × Answer). x.1) (made_of who base m s) a (made_for c (lines_in who base (effect m s.1 (stamped base s.0)).0 order)) others refl
      (order_answers p (effect m s.1 (stamped base s.0)).0 order h.1) (who s.0 == c))

  groups_steps : (f : ℕ → List (List Placed)) (own : ℕ → List Placed) → ((g : ℕ) (order : List Placed) → IsInterleaving (f g) order → filter its order ≡ own g)
      → (m : Items) (groups : List ℕ) (now : Items) (answers : List (ℕ × Answer)) (run : GroupsRun f base m groups now answers)
      → steps_made c (groups_lines who f base m groups now answers run) ≡ map (λ s. s.1) (flat_map own groups)
  unfolding groups_lines
  groups_steps f own h m [] now answers run = refl
  groups_steps f own h m (g ∷ groups) now answers run =
      let rest = groups_lines who f base (items_after base m run.0) groups now run.1 run.3 in
      ap (map (λ (x : Made). x.step)) (made_for-append c (lines_in who base m run.0) rest)
      ∙ map-append (λ (x : Made). x.step) (made_for c (lines_in who base m run.0)) (made_for c rest)
      ∙ (λ i. (order_steps m run.0 ∙ ap (map (λ (x : Placed). x.1)) (h g run.0 run.2)) i ++ groups_steps f own h (items_after base m run.0) groups now run.1 run.3 i)
      ∙ sym (map-append (λ (x : Placed). x.1) (own g) (flat_map own groups))

  groups_answers : (p : ℕ) (f : ℕ → List (List Placed)) → ((g : ℕ) (order : List Placed) → IsInterleaving (f g) order → AllByRecursion (λ s. (who s.0 == c) ≡ (s.0 == p)) order)
      → (m : Items) (groups : List ℕ) (now : Items) (answers : List (ℕ × Answer)) (run : GroupsRun f base m groups now answers)
      → answers_made c (groups_lines who f base m groups now answers run) ≡ answers_at p answers
  unfolding groups_lines
  groups_answers p f h m [] now answers run = ap (answers_at p) (sym run.1)
  groups_answers p f h m (g ∷ groups) now answers run =
      let rest = groups_lines who f base (items_after base m run.0) groups now run.1 run.3 in
      ap (map (λ (x : Made). x.answer)) (made_for-append c (lines_in who base m run.0) rest)
      ∙ map-append (λ (x : Made). x.answer) (made_for c (lines_in who base m run.0)) (made_for c rest)
      ∙ (λ i. order_answers p m run.0 (h g run.0 run.2) i ++ groups_answers p f h (items_after base m run.0) groups now run.1 run.3 i)
      ∙ sym (answers_at-append p (answers_in base m run.0) run.1)
      ∙ ap (answers_at p) (sym run.4)

-- ---- the requests that run

-- a request that runs is at its place
runner_there : (s : Replies) (earlier later : List Request) (r : Runner) → Contains (fresh_after s earlier later) r → slice_get (earlier ++ later) r.0 ≡ Some r.1
runner_there s earlier [] r c = absurd (in_none r c)
runner_there s earlier (q ∷ later) r c = elim (first_or_later s earlier later q r c) [
  | inl (is_run, same) ↦ subst (λ (x : Runner). slice_get (earlier ++ q ∷ later) x.0 ≡ Some x.1) same (here earlier)
  | inr there ↦ ap (λ (l : List Request). slice_get l r.0) (sym (append_assoc earlier (q ∷ []) later)) ∙ runner_there s (earlier ++ q ∷ []) later r there
]
  where
    here : (front : List Request) → slice_get (front ++ q ∷ later) (length front) ≡ Some q
    here [] = refl
    here (x ∷ front) = here front

-- the client of the request at a place
abbrev client_at : List Request → ℕ → ℕ
client_at requests place = option_map_or (λ (q : Request). q.client) (slice_get requests place) 0

find_client : (c : ℕ) (rs : List Runner) → ((k : ℕ) × (r : Runner) × (slice_get rs k ≡ Some r) × (r.1.client ≡ c)) ⊎ ((i : ℕ) (r : Runner) → slice_get rs i ≡ Some r → r.1.client ≢ c)
find_client c [] = inr (λ i r e. absurd (cc e))
find_client c (r ∷ rs) = elim (same_or_not r.1.client c) [
  | inl same ↦ inl (0, r, refl, same)
  | inr other ↦ elim (find_client c rs) [
    | inl (k, t, there, client) ↦ inl (suc k, t, there, client)
    | inr none ↦ inr (λ i. rest other none i)
  ]
]
  where
    rest : r.1.client ≢ c → ((i : ℕ) (t : Runner) → slice_get rs i ≡ Some t → t.1.client ≢ c) → (i : ℕ) (t : Runner) → slice_get (r ∷ rs) i ≡ Some t → t.1.client ≢ c
    rest other none zero t e = subst (λ (x : Runner). x.1.client ≢ c) (same_element r t e) other
    rest other none (suc i) t e = none i t e

pub contains_at : {X : Type 0} (xs : List X) (i : ℕ) (x : X) → slice_get xs i ≡ Some x → Contains xs x
contains_at [] i x e = absurd (cc e)
contains_at {X} (y ∷ xs) zero x e = subst (λ (z : X). Contains (y ∷ xs) z) (same_element y x e) (in_head y xs)
contains_at (y ∷ xs) (suc i) x e = in_tail y x xs (contains_at xs i x e)

get_of : {X : Type 0} (xs : List X) (x : X) (c : Contains xs x) → slice_get xs c.0 ≡ Some x
get_of [] x (k, lt, e) = absurd (omega (arith, lt))
get_of (y ∷ xs) x (zero, lt, e) = ap Some e
get_of (y ∷ xs) x (suc k, lt, e) = get_of xs x (k, omega (arith, lt), e)

get_below : {X : Type 0} (xs : List X) (i : ℕ) (x : X) → slice_get xs i ≡ Some x → i < length xs
get_below [] i x e = absurd (cc e)
get_below (y ∷ xs) zero x e = omega arith
get_below (y ∷ xs) (suc i) x e = let h = get_below xs i x e in omega (arith, h)

below_or_not : (u a : ℕ) → (u < a) ⊎ ((p : ℕ) × (a + p ≡ u))
below_or_not u zero = inr (u, omega arith)
below_or_not zero (suc a) = inl (omega arith)
below_or_not (suc u) (suc a) = elim (below_or_not u a) [
  | inl lt ↦ inl (omega (arith, lt))
  | inr (p, e) ↦ inr (p, omega (arith, e))
]

find_place : (p : ℕ) (rs : List Runner) → ((k : ℕ) × (r : Runner) × (slice_get rs k ≡ Some r) × (r.0 ≡ p)) ⊎ ((i : ℕ) (r : Runner) → slice_get rs i ≡ Some r → r.0 ≢ p)
find_place p [] = inr (λ i r e. absurd (cc e))
find_place p (r ∷ rs) = elim (same_or_not r.0 p) [
  | inl same ↦ inl (0, r, refl, same)
  | inr other ↦ elim (find_place p rs) [
    | inl (k, t, there, place) ↦ inl (suc k, t, there, place)
    | inr none ↦ inr (λ i. rest other none i)
  ]
]
  where
    rest : r.0 ≢ p → ((i : ℕ) (t : Runner) → slice_get rs i ≡ Some t → t.0 ≢ p) → (i : ℕ) (t : Runner) → slice_get (r ∷ rs) i ≡ Some t → t.0 ≢ p
    rest other none zero t e = subst (λ (x : Runner). x.0 ≢ p) (same_element r t e) other
    rest other none (suc i) t e = none i t e

filter_same : {X : Type 0} (P Q : X → Bool) (xs : List X) → AllByRecursion (λ x. P x ≡ Q x) xs → filter Q xs ≡ filter P xs
filter_same P Q [] h = refl
filter_same {X} P Q (x ∷ xs) h = λ i. if sym h.0 i then x ∷ filter_same P Q xs h.1 i else filter_same P Q xs h.1 i

all_placed : (Q : ℕ → Type 0) (p : ℕ) (ss : List Step) → Q p → AllByRecursion (λ (s : Placed). Q s.0) (map (λ step. (p, step)) ss)
all_placed Q p [] q = tt
all_placed Q p (s ∷ ss) q = (q, all_placed Q p ss q)

map_placed : (p : ℕ) (ss : List Step) → map (λ (s : Placed). s.1) (map (λ step. (p, step)) ss) ≡ ss
map_placed p [] = refl
map_placed p (s ∷ ss) = ap (λ (l : List Step). s ∷ l) (map_placed p ss)

flat_none : {X Y : Type 0} (f : X → List Y) → ((x : X) → f x ≡ []) → (xs : List X) → flat_map f xs ≡ []
flat_none f h [] = refl
flat_none {X} {Y} f h (x ∷ xs) = ap (λ (l : List Y). l ++ flat_map f xs) (h x) ∙ flat_none f h xs

pub runner_in : (old : StateView) (batch : Batch) (r : Runner) → Contains (runners old batch) r → Contains batch.requests r.1
runner_in old batch r c = contains_at batch.requests r.0 r.1 (runner_there old.sessions [] batch.requests r c)

-- ---- a round

-- one request of the client ran, or none
pub record RanOne (old : StateView) (e : Executed) (lines : List Line) (c : ℕ) : Type 0 where
  pub runner : Runner
  pub runs : Contains (runners old e.batch) runner
  pub client : runner.1.client ≡ c
  pub made : steps_made c lines ≡ steps runner.1.command
  pub replied : Contains e.replies (record { place = runner.0; client = runner.1.client; number = runner.1.number; reply = reply runner.1.command (answers_made c lines) })

pub record RanNone (old : StateView) (e : Executed) (lines : List Line) (c : ℕ) : Type 0 where
  pub made : steps_made c lines ≡ []
  pub none : (a : Answered) → Contains e.replies a → a.client ≡ c → ⊥

pub record RoundMade (old : StateView) (e : Executed) (lines : List Line) : Type 0 where
  pub leads : Leads (seen old) lines (seen e.new)
  pub each : (c : ℕ) → RanOne old e lines c ⊎ RanNone old e lines c
  pub ticks : (m : ℕ) → Contains lines (Tick m) → m ≡ moment_of old e.batch
  -- first it becomes so late, and then no more
  pub rest : List Line
  pub begins : lines ≡ Tick (moment_of old e.batch) ∷ rest
  pub no_tick : (m : ℕ) → Contains rest (Tick m) → ⊥
  pub few : (u : ℕ) → count u (uniques lines) ≤ 1
  pub within : (u : ℕ) → 0 < count u (uniques lines) → (first_stamp e.batch.n ≤ u) × (u < first_stamp e.batch.n + MOST_REQUESTS)

module _ (old : StateView) (e : Executed) (over : IsOver old e) where
  abbrev rs : List Runner
  rs = runners old e.batch

  abbrev round : Round old e.batch e.ordered e.new e.replies
  round = over.round

  abbrev who : ℕ → ℕ
  who = client_at e.batch.requests

  abbrev lists : ℕ → List (List Placed)
  lists group = map (steps_in e.batch e.ordered group) rs

  abbrev moment : ℕ
  moment = moment_of old e.batch

  abbrev first : Stamp
  first = first_place old e.batch

  abbrev groups : List ℕ
  groups = range_with_len 0 round.groups

  pub of_groups : List Line
  of_groups = groups_lines who lists first (alive old.items moment) groups e.new.items round.answers round.run

  who_is : (i : ℕ) (r : Runner) → slice_get rs i ≡ Some r → who r.0 ≡ r.1.client
  who_is i r at = ap (λ (o : Option Request). option_map_or (λ (q : Request). q.client) o 0) (runner_there old.sessions [] e.batch.requests r (contains_at rs i r at))

  -- what holds of a runner's place holds of its steps in a group
  placed_all : (Q : ℕ → Type 0) (g : ℕ) (r : Runner) → Q r.0 → AllByRecursion (λ (s : Placed). Q s.0) (steps_in e.batch e.ordered g r)
  placed_all Q g r q = by (group_of e.batch e.ordered r == g)
    where
      by : (b : Bool) → AllByRecursion (λ (s : Placed). Q s.0) (if b then map (λ step. (r.0, step)) (steps r.1.command) else [])
      by true = all_placed Q r.0 (steps r.1.command) q
      by false = tt

  -- what holds of all runners' places holds of all steps in a list of a group
  lists_all : (Q : ℕ → Type 0) (g i : ℕ) (list : List Placed) → slice_get (lists g) i ≡ Some list → ((r : Runner) → slice_get rs i ≡ Some r → Q r.0) → AllByRecursion (λ (s : Placed). Q s.0) list
  lists_all Q g i list at h =
      let w = get_map (steps_in e.batch e.ordered g) rs i list at in
      subst (λ (l : List Placed). AllByRecursion (λ (s : Placed). Q s.0) l) (sym w.2) (placed_all Q g w.0 (h w.0 w.1))

  none_of : (c : ℕ) → ((i : ℕ) (r : Runner) → slice_get rs i ≡ Some r → r.1.client ≢ c) → (g : ℕ) (order : List Placed) → IsInterleaving (lists g) order → filter (its who first c) order ≡ []
  none_of c none g order h = filter_none (its who first c) order (order_each (λ (s : Placed). its who first c s ≡ false) order (lists g)
      (λ i list at. lists_all (λ p. (who p == c) ≡ false) g i list at (λ r there. ne_eqb (who r.0) c (λ same. none i r there (sym (who_is i r there) ∙ same)))) h)

  -- the steps of the one runner of the client, in a group's order
  one_of : (k : ℕ) (r : Runner) → slice_get rs k ≡ Some r → (g : ℕ) (order : List Placed) → IsInterleaving (lists g) order → filter (its who first r.1.client) order ≡ steps_in e.batch e.ordered g r
  one_of k r at g order h = order_only (its who first r.1.client) order (lists g) k (steps_in e.batch e.ordered g r) (map_at (steps_in e.batch e.ordered g) rs k r at)
      (placed_all (λ p. (who p == r.1.client) ≡ true) g r (eq-eqb (who r.0) r.1.client (who_is k r at)))
      (λ i list other there. lists_all (λ p. (who p == r.1.client) ≡ false) g i list there (λ t is. ne_eqb (who t.0) r.1.client (λ same. other
      (fresh_apart old.sessions [] e.batch.requests i k t r is at (ap (λ (x : Runner). x.0) (one_runs old.sessions [] e.batch.requests t r (contains_at rs i t is) (contains_at rs k r at) (sym (who_is i t is) ∙ same)))))))
      h

  -- its client and its place tell the same steps
  same_tests : (k : ℕ) (r : Runner) → slice_get rs k ≡ Some r → (g : ℕ) (order : List Placed) → IsInterleaving (lists g) order → AllByRecursion (λ s. (who s.0 == r.1.client) ≡ (s.0 == r.0)) order
  same_tests k r at g order h = order_each (λ (s : Placed). (who s.0 == r.1.client) ≡ (s.0 == r.0)) order (lists g)
      (λ i list there. lists_all (λ p. (who p == r.1.client) ≡ (p == r.0)) g i list there (λ t is. elim (same_or_not t.0 r.0) [
        | inl same ↦
            let one : i ≡ k = fresh_apart old.sessions [] e.batch.requests i k t r is at same in
            let same_runner : t ≡ r = same_element t r (sym is ∙ ap (slice_get rs) one ∙ at) in
            eq-eqb (who t.0) r.1.client (who_is i t is ∙ ap (λ (x : Runner). x.1.client) same_runner) ∙ sym (eq-eqb t.0 r.0 same)
        | inr other ↦
            ne_eqb (who t.0) r.1.client (λ same. other (ap (λ (x : Runner). x.0) (one_runs old.sessions [] e.batch.requests t r (contains_at rs i t is) (contains_at rs k r at) (sym (who_is i t is) ∙ same))))
            ∙ sym (ne_eqb t.0 r.0 other)
      ])) h

  abbrev all_lines : List Line
  all_lines = Tick moment ∷ of_groups

  ran_one : (k : ℕ) (r : Runner) → slice_get rs k ≡ Some r → RanOne old e all_lines r.1.client
  unfolding of_groups
  ran_one k r at =
      let start = alive old.items moment in
      let below : group_of e.batch e.ordered r < round.groups = each-of-all (λ (x : Runner). group_of e.batch e.ordered x < round.groups) rs round.all_run k r at in
      let low : group_of e.batch e.ordered r < 0 + round.groups = omega (arith, below) in
      let its_steps = groups_steps who first r.1.client lists (λ g. steps_in e.batch e.ordered g r) (one_of k r at) start groups e.new.items round.answers round.run in
      let its_answers = groups_answers who first r.1.client r.0 lists (same_tests k r at) start groups e.new.items round.answers round.run in
      let once = once_among (map (λ step. (r.0, step)) (steps r.1.command)) (group_of e.batch e.ordered r) 0 round.groups (omega arith) low in
      let there = contains_at (map (answered round.answers) rs) k (answered round.answers r) (map_at (answered round.answers) rs k r at) in
      record {
        runner = r;
        runs = contains_at rs k r at;
        client = refl;
        made = its_steps ∙ ap (map (λ (s : Placed). s.1)) once ∙ map_placed r.0 (steps r.1.command);
        replied = subst (λ (l : List Answered). Contains l (record { place = r.0; client = r.1.client; number = r.1.number; reply = reply r.1.command (answers_made r.1.client of_groups) })) (sym round.replied)
            (subst (λ (list : List Answer). Contains (map (answered round.answers) rs) (record { place = r.0; client = r.1.client; number = r.1.number; reply = reply r.1.command list })) (sym its_answers) there);
      }

  ran_none : (c : ℕ) → ((i : ℕ) (r : Runner) → slice_get rs i ≡ Some r → r.1.client ≢ c) → RanNone old e all_lines c
  unfolding of_groups
  ran_none c none =
      let start = alive old.items moment in
      let its_steps = groups_steps who first c lists (λ g. []) (none_of c none) start groups e.new.items round.answers round.run in
      record {
        made = its_steps ∙ ap (map (λ (s : Placed). s.1)) (flat_none {Y = Placed} (λ g. []) (λ g. refl) groups);
        none = λ a there client.
            let w = in_map (answered round.answers) rs a (subst (λ (l : List Answered). Contains l a) round.replied there) in
            none w.1.0 w.0 (get_of rs w.0 w.1) (ap (λ (x : Answered). x.client) w.2 ∙ client);
      }

  -- the place's steps in a group's order
  at_place : (k : ℕ) (r : Runner) → slice_get rs k ≡ Some r → (g : ℕ) (order : List Placed) → IsInterleaving (lists g) order → filter (λ s. s.0 == r.0) order ≡ steps_in e.batch e.ordered g r
  at_place k r at g order h = filter_same (λ (s : Placed). who s.0 == r.1.client) (λ s. s.0 == r.0) order (same_tests k r at g order h) ∙ one_of k r at g order h

  none_at : (p : ℕ) → ((i : ℕ) (r : Runner) → slice_get rs i ≡ Some r → r.0 ≢ p) → (g : ℕ) (order : List Placed) → IsInterleaving (lists g) order → filter (λ s. s.0 == p) order ≡ []
  none_at p none g order h = filter_none (λ (s : Placed). s.0 == p) order (order_each (λ (s : Placed). (s.0 == p) ≡ false) order (lists g)
      (λ i list at. lists_all (λ q. (q == p) ≡ false) g i list at (λ r there. ne_eqb r.0 p (none i r there))) h)

  -- what is known of how often a unique is there: it is that of the place of a request that ran, and is there once at most; or it is nowhere
  unique_at : (u p : ℕ) → first.stamp + p ≡ u → ((p < MOST_REQUESTS) × (count u (uniques of_groups) ≤ 1)) ⊎ (count u (uniques of_groups) ≡ 0)
  unfolding of_groups
  unique_at u p is =
      let start = alive old.items moment in
      elim (find_place p rs) [
        | inl (k, r, at, place) ↦
            let below : group_of e.batch e.ordered r < round.groups = each-of-all (λ (x : Runner). group_of e.batch e.ordered x < round.groups) rs round.all_run k r at in
            let low : group_of e.batch e.ordered r < 0 + round.groups = omega (arith, below) in
            let is_r : first.stamp + r.0 ≡ u = omega (arith, is, place) in
            let counted = count_groups who first u r.0 is_r lists (λ g. steps_in e.batch e.ordered g r) (at_place k r at) start groups e.new.items round.answers round.run in
            let once = once_among (map (λ step. (r.0, step)) (steps r.1.command)) (group_of e.batch e.ordered r) 0 round.groups (omega arith) low in
            let one = counted ∙ ap updates_in once in
            let most = few_updates r.0 r.1.command in
            let in_batch = get_below e.batch.requests r.0 r.1 (runner_there old.sessions [] e.batch.requests r (contains_at rs k r at)) in
            let limit = e.batch.few in
            inl (omega (arith, in_batch, limit, place), omega (arith, one, most))
        | inr none ↦
            let counted = count_groups who first u p is lists (λ g. []) (none_at p none) start groups e.new.items round.answers round.run in
            inr (counted ∙ ap updates_in (flat_none {Y = Placed} (λ g. []) (λ g. refl) groups))
      ]

  unique_in : (u : ℕ) → ((first.stamp ≤ u) × (u < first.stamp + MOST_REQUESTS) × (count u (uniques of_groups) ≤ 1)) ⊎ (count u (uniques of_groups) ≡ 0)
  unfolding of_groups
  unique_in u = elim (below_or_not u first.stamp) [
    | inl low ↦ inr (low_groups who first u low lists (alive old.items moment) groups e.new.items round.answers round.run)
    | inr (p, is) ↦ elim (unique_at u p is) [
      | inl (lt, most) ↦ inl (omega (arith, is), omega (arith, is, lt), most)
      | inr none ↦ inr none
    ]
  ]

  few_unique : (u : ℕ) → count u (uniques of_groups) ≤ 1
  few_unique u = elim (unique_in u) [
    | inl (low, high, most) ↦ most
    | inr none ↦ omega (arith, none)
  ]

  within_unique : (u : ℕ) → 0 < count u (uniques of_groups) → (first.stamp ≤ u) × (u < first.stamp + MOST_REQUESTS)
  within_unique u some = elim (unique_in u) [
    | inl (low, high, most) ↦ (low, high)
    | inr none ↦ absurd (omega (arith, none, some))
  ]

  pub round_made : (lines : List Line) × RoundMade old e lines
  unfolding of_groups
  round_made =
      let start = alive old.items moment in
      let same : moment_of old e.batch ≡ e.new.moment = sym round.moment in (
        all_lines,
        record {
          leads = (le-max_right e.batch.moment old.moment, subst (λ (x : ℕ). Leads (at start moment) of_groups (at e.new.items x)) same (lines_lead who lists first start groups e.new.items round.answers round.run));
          each = λ c. elim (find_client c rs) [
            | inl (k, r, there, client) ↦ inl (subst (RanOne old e all_lines) client (ran_one k r there))
            | inr none ↦ inr (ran_none c none)
          ];
          few = few_unique;
          within = within_unique;
          ticks = λ m c. elim (first_or_other (Tick moment) (Tick m) of_groups c) [
            | inl is ↦ sym (same_tick moment m is)
            | inr there ↦ absurd (groups_no_tick who lists first start groups e.new.items round.answers round.run m there)
          ];
          rest = of_groups;
          begins = refl;
          no_tick = λ m there. groups_no_tick who lists first start groups e.new.items round.answers round.run m there;
        },
      )
