-- An order that has the steps of each request in their order, and no others, is an interleaving of them.
use Rattle.std.proofs.Common.{◌≡◌, ◌≢◌, ℕ, zero, suc, true, false, cond, List, [], ◌∷◌, map, set, Some, None, refl, sym, ap, ◌∙◌, ⊎_elim, subst, eq-eqb, ne_eqb}
use Rattle.std.specs.Prelude.{slice_get, ◌==◌, not}
use Rattle.std.specs.List.{AllByRecursion, list_all}
use Rattle.std.proofs.lemmas.Bool.{and_parts}
use Rattle.std.proofs.lemmas.List.{map-set}
use mathlib.Core.Logic.{dite}
use native.Mathlib.Decide.{ℕ_discrete}
use Rattle.item_steps.specs.Schedule.{IsInterleaving, placed}
use Rattle.item_steps.specs.declared.step.Step.{Step}
use Rattle.item_steps.specs.declared.group.Task.{Task}
use Rattle.round.specs.declared.rule.Entry.{Entry}
use Rattle.round.specs.Sittings.{log_at, steps_at, are_apart}
use Rattle.round.specs.Orders.{placed_of}
use Rattle.round.proofs.Lists.{same_element, get_set, set_there, set_else, map_at, list_all_at}

-- no two requests have one place
abbrev pub Apart : List Task → Type 0
Apart group = (i j : ℕ) (t u : Task) → slice_get group i ≡ Some t → slice_get group j ≡ Some u → t.place ≡ u.place → i ≡ j

pub apart_from : (group : List Task) → are_apart group ≡ true → Apart group
apart_from [] all i j t u at there same = absurd (let no : None ≡ Some t = at in cc)
apart_from (task ∷ tasks) all i j t u at there same = by (apart_from tasks) i j at there
  where
    both : (list_all (λ (other : Task). not (other.place == task.place)) tasks ≡ true) × (are_apart tasks ≡ true)
    both = and_parts (list_all (λ (other : Task). not (other.place == task.place)) tasks) (are_apart tasks) all

    never : {A : Type 0} (k : ℕ) (v w : Task) → slice_get tasks k ≡ Some v → Some task ≡ Some w → v.place ≡ w.place → A
    never k v w is first eq =
        let here : v.place ≡ task.place = eq ∙ sym (ap (λ (x : Task). x.place) (same_element task w first)) in
        let no : not (v.place == task.place) ≡ true = list_all_at (λ (other : Task). not (other.place == task.place)) tasks both.0 k v is in
        absurd (let wrong : false ≡ true = sym (ap not (eq-eqb v.place task.place here)) ∙ no in cc)

    by : (are_apart tasks ≡ true → Apart tasks) → (i j : ℕ) → slice_get (task ∷ tasks) i ≡ Some t → slice_get (task ∷ tasks) j ≡ Some u → i ≡ j
    by more zero zero a b = refl
    by more zero (suc j) a b = never j u t b a (sym same)
    by more (suc i) zero a b = never i t u a b same
    by more (suc i) (suc j) a b = ap suc (more both.1 i j t u a b same)

-- each request has its steps in the order, and each step there is one of a request
pub record Complete (group : List Task) (order : List Entry) : Type 0 where
  pub steps : (i : ℕ) (t : Task) → slice_get group i ≡ Some t → steps_at t.place order ≡ t.steps
  pub no_others : (i : ℕ) (e : Entry) → slice_get order i ≡ Some e → (j : ℕ) × (t : Task) × (slice_get group j ≡ Some t) × (t.place ≡ e.place)

pub log_at_here : (place : ℕ) (e : Entry) (es : List Entry) → e.place ≡ place → log_at place (e ∷ es) ≡ e ∷ log_at place es
log_at_here place e es is = ap (λ b. cond b (e ∷ log_at place es) (log_at place es)) (eq-eqb e.place place is)

pub log_at_else : (place : ℕ) (e : Entry) (es : List Entry) → e.place ≢ place → log_at place (e ∷ es) ≡ log_at place es
log_at_else place e es off = ap (λ b. cond b (e ∷ log_at place es) (log_at place es)) (ne_eqb e.place place off)

all_empty : (group : List Task) → ((i : ℕ) (t : Task) → slice_get group i ≡ Some t → t.steps ≡ []) → AllByRecursion (λ list. list ≡ []) (placed group)
all_empty [] h = tt
all_empty (t ∷ ts) h = (ap (λ (steps : List Step). map (λ step. (t.place, step)) steps) (h 0 t refl), all_empty ts (λ i u at. h (suc i) u at))

-- the group after the first step of the request at an index
module _ (group : List Task) (apart : Apart group) (j : ℕ) (t : Task) (there : slice_get group j ≡ Some t) (rest : List Step) where
  abbrev left : Task
  left = record { place = t.place; steps = rest }

  abbrev pub less : List Task
  less = set group j left

  was : (i : ℕ) (u : Task) → slice_get less i ≡ Some u → (v : Task) × (slice_get group i ≡ Some v) × (v.place ≡ u.place)
  was i u at = ⊎_elim
      (λ (x : (i ≡ j) × (left ≡ u)). (t, subst (λ k. slice_get group k ≡ Some t) (sym x.0) there, ap (λ (v : Task). v.place) x.1))
      (λ (x : (i ≢ j) × (slice_get group i ≡ Some u)). (u, x.1, refl))
      (get_set group j left i u at)

  still : (i : ℕ) (u : Task) → slice_get group i ≡ Some u → (v : Task) × (slice_get less i ≡ Some v) × (v.place ≡ u.place)
  still i u at = dite (ℕ_discrete i j)
      (λ is. (
        left,
        subst (λ k. slice_get less k ≡ Some left) (sym is) (set_there group j left t there),
        ap (λ (v : Task). v.place) (same_element t u (sym there ∙ ap (slice_get group) (sym is) ∙ at)),
      ))
      (λ off. (u, set_else group j left i off ∙ at, refl))

  less_apart : Apart less
  less_apart i k u v at is same =
      let x = was i u at in
      let y = was k v is in
      apart i k x.0 y.0 x.1 y.1 (x.2 ∙ same ∙ sym y.2)

  less_complete : (e : Entry) (es : List Entry) → e.place ≡ t.place → rest ≡ steps_at t.place es → Complete group (e ∷ es) → Complete less es
  less_complete e es its rest_is c = record {
    steps = λ i u at. ⊎_elim
        (λ (x : (i ≡ j) × (left ≡ u)). sym (ap (λ (v : Task). steps_at v.place es) x.1) ∙ sym rest_is ∙ ap (λ (v : Task). v.steps) x.1)
        (λ (x : (i ≢ j) × (slice_get group i ≡ Some u)).
        let off : e.place ≢ u.place = λ same. x.0 (apart i j u t x.1 there (sym same ∙ its)) in
        ap (λ l. map (λ (y : Entry). y.step) l) (sym (log_at_else u.place e es off)) ∙ c.steps i u x.1)
        (get_set group j left i u at);
    no_others = λ i y at. let o = c.no_others (suc i) y at in let s = still o.0 o.1 o.2 in (o.0, s.0, s.1, s.2 ∙ o.3);
  }

pub interleaved : (order : List Entry) (group : List Task) → Apart group → Complete group order → IsInterleaving (placed group) (map placed_of order)
interleaved [] group apart c = all_empty group (λ i t at. sym (c.steps i t at))
interleaved (e ∷ es) group apart c =
    let o = c.no_others 0 e refl in
    let j = o.0 in
    let t : Task = o.1 in
    let there : slice_get group j ≡ Some t = o.2 in
    let its : e.place ≡ t.place = sym o.3 in
    let rest : List Step = steps_at t.place es in
    let steps : t.steps ≡ e.step ∷ rest = sym (c.steps j t there) ∙ ap (λ l. map (λ (y : Entry). y.step) l) (log_at_here t.place e es its) in
    let list = λ (steps : List Step). map (λ (step : Step). (t.place, step)) steps in
    let at : slice_get (placed group) j ≡ Some ((t.place, e.step) ∷ list rest) = map_at (λ (task : Task). map (λ (step : Step). (task.place, step)) task.steps) group j t there ∙ ap (λ l. Some (list l)) steps in
    let later = interleaved es (less group apart j t there rest) (less_apart group apart j t there rest) (less_complete group apart j t there rest e es its refl c) in (
      j,
      list rest,
      at ∙ ap (λ p. Some ((p, e.step) ∷ list rest)) (sym its),
      subst (λ lists. IsInterleaving lists (map placed_of es)) (map-set (λ (task : Task). map (λ (step : Step). (task.place, step)) task.steps) group j (left group apart j t there rest)) later,
    )
