-- Lists among which empty ones are have the same orders.
use Rattle.std.proofs.Common.{◌≡◌, ℕ, zero, suc, Bool, true, false, List, [], ◌∷◌, map, length, drop, set, Some, refl, sym, ap, subst}
use Rattle.std.specs.Prelude.{slice_get, filter, ◌==◌, if◌then◌else◌}
use Rattle.std.specs.List.{AllByRecursion}
use Rattle.std.proofs.lemmas.Bool.{eqb-true}
use Rattle.item_steps.specs.Schedule.{Placed, IsInterleaving, placed}
use Rattle.executor.specs.BatchRequest.{BatchRequest}
use Rattle.executor.specs.GroupRun.{task_of_request, tasks_in}
use Rattle.executor.proofs.PartialLemmas.{Each}
use Rattle.executor.proofs.GroupRunLemmas.{left_in, at_place}

-- The first lists, with empty ones among them, are the second.
pub data Spread : List (List Placed) → List (List Placed) → Type 0 where
  end : Spread [] []
  same : (l : List Placed) (ls ms : List (List Placed)) → Spread ls ms → Spread (l ∷ ls) (l ∷ ms)
  more : (ls ms : List (List Placed)) → Spread ls ms → Spread ls ([] ∷ ms)

-- a list that has a member is found among the second
found : (ls ms : List (List Placed)) → Spread ls ms → (i : ℕ) (x : Placed) (rest : List Placed) → slice_get ls i ≡ Some (x ∷ rest)
    → (j : ℕ) × (slice_get ms j ≡ Some (x ∷ rest)) × Spread (set ls i rest) (set ms j rest)
found ls ms end i x rest at = absurd (cc at)
found ls ms (same l ks bs s) zero x rest at = (0, at, same rest ks bs s)
found ls ms (same l ks bs s) (suc i) x rest at =
    let f = found ks bs s i x rest at in
    (suc f.0, f.1, same l (set ks i rest) (set bs f.0 rest) f.2)
found ls ms (more ks bs s) i x rest at =
    let f = found ks bs s i x rest at in
    (suc f.0, f.1, more (set ks i rest) (set bs f.0 rest) f.2)

none_left : (ls ms : List (List Placed)) → Spread ls ms → AllByRecursion (λ list. list ≡ []) ls → AllByRecursion (λ list. list ≡ []) ms
none_left ls ms end all = tt
none_left ls ms (same l ks bs s) all = (all.0, none_left ks bs s all.1)
none_left ls ms (more ks bs s) all = (refl, none_left ks bs s all)

pub spread_orders : (order : List Placed) (ls ms : List (List Placed)) → Spread ls ms → IsInterleaving ls order → IsInterleaving ms order
spread_orders [] ls ms s h = none_left ls ms s h
spread_orders (x ∷ order) ls ms s h =
    let f = found ls ms s h.0 x h.1 h.2 in
    (f.0, h.1, f.1, spread_orders order (set ls h.0 h.1) (set ms f.0 h.1) f.2 h.3)

-- the steps of the group's requests are among those of all requests
pub group_is_spread : (group : ℕ) (running : List BatchRequest) → Each (λ r. r.group ≡ group → r.answers ≡ []) running → Spread (placed (tasks_in group running)) (map (left_in group) running)
group_is_spread group [] untouched = end
group_is_spread group (r ∷ running) untouched = by (r.group == group) refl (group_is_spread group running (λ i. untouched (suc i)))
  where
    by : (b : Bool) → (r.group == group) ≡ b → Spread (placed (tasks_in group running)) (map (left_in group) running)
        → Spread (placed (map task_of_request (if b then r ∷ filter (λ x. x.group == group) running else filter (λ x. x.group == group) running)))
        ((if b then at_place r.place (drop (length r.answers) r.steps) else []) ∷ map (left_in group) running)
    by false t s = more (placed (tasks_in group running)) (map (left_in group) running) s
    by true t s =
        let none : length r.answers ≡ 0 = ap length (untouched 0 r refl (eqb-true r.group group t)) in
        subst (λ (n : ℕ). Spread (at_place r.place r.steps ∷ placed (tasks_in group running)) (at_place r.place (drop n r.steps) ∷ map (left_in group) running)) (sym none)
        (same (at_place r.place r.steps) (placed (tasks_in group running)) (map (left_in group) running) s)
