-- Steps that are made one after another, until none of the group is left.
use Rattle.std.proofs.Common.{◌≡◌, ℕ, zero, suc, ◌+◌, ◌-◌, ◌<◌, Bool, true, false, List, [], ◌∷◌, ◌++◌, map, length, Some, refl, sym, ap, ◌∙◌, arith, subst}
use Rattle.std.specs.Prelude.{slice_get, slice_set, not, ◌||◌}
use Rattle.std.specs.List.{list_all, list_any}
use Rattle.std.proofs.lemmas.Bool.{and_parts, not-true}
use Rattle.std.proofs.lemmas.List.{length-append}
use Rattle.std.proofs.lemmas.Option.{same_Some, slice_get_within}
use Rattle.item_steps.specs.Effect.{effect}
use Rattle.item_steps.specs.Schedule.{stamped}
use Rattle.item_steps.specs.declared.step.Answer.{Answer}
use Rattle.item_steps.specs.declared.step.Stamp.{Stamp}
use Rattle.executor.specs.BatchRequest.{BatchRequest}
use Rattle.executor.specs.Through.{later}
use Rattle.executor.specs.Work.{Progress, WorkStep, HasStep, HasNoStep, is_ready}
use Rattle.executor.proofs.ThroughLemmas.{same_later}

-- how many steps are left of all requests
abbrev pub steps_left : List BatchRequest → ℕ
steps_left [] = 0
steps_left (r ∷ rs) = (length r.steps - length r.answers) + steps_left rs

fewer_left : (rs : List BatchRequest) (i : ℕ) (r : BatchRequest) (a : Answer) → slice_get rs i ≡ Some r → length r.answers < length r.steps
    → steps_left (slice_set rs i (record r { answers = r.answers ++ a ∷ [] })) < steps_left rs
fewer_left [] i r a at l = absurd (cc at)
fewer_left (x ∷ rs) zero r a at l =
    let same : x ≡ r = same_Some x r at in
    let long : length (r.answers ++ a ∷ []) ≡ length r.answers + 1 = length-append r.answers (a ∷ []) in
    let was : steps_left (x ∷ rs) ≡ (length x.steps - length x.answers) + steps_left rs = refl in
    let now : steps_left (slice_set (x ∷ rs) 0 (record r { answers = r.answers ++ a ∷ [] })) ≡ (length r.steps - length (r.answers ++ a ∷ [])) + steps_left rs = refl in
    omega (arith, l, long, was, now, ap (λ (z : BatchRequest). length z.steps) same, ap (λ (z : BatchRequest). length z.answers) same)
fewer_left (x ∷ rs) (suc i) r a at l =
    let less = fewer_left rs i r a at l in
    let was : steps_left (x ∷ rs) ≡ (length x.steps - length x.answers) + steps_left rs = refl in
    let now : steps_left (slice_set (x ∷ rs) (suc i) (record r { answers = r.answers ++ a ∷ [] }))
    ≡ (length x.steps - length x.answers) + steps_left (slice_set rs i (record r { answers = r.answers ++ a ∷ [] })) = refl in
    omega (arith, less, was, now)

groups_set : (rs : List BatchRequest) (i : ℕ) (r : BatchRequest) (answers : List Answer) → slice_get rs i ≡ Some r
    → map (λ x. x.group) (slice_set rs i (record r { answers = answers })) ≡ map (λ x. x.group) rs
groups_set [] i r answers at = absurd (cc at)
groups_set (x ∷ rs) zero r answers at = ap (λ (z : BatchRequest). z.group ∷ map (λ (y : BatchRequest). y.group) rs) (sym (same_Some x r at))
groups_set (x ∷ rs) (suc i) r answers at = ap (λ (gs : List ℕ). x.group ∷ gs) (groups_set rs i r answers at)

-- after a step fewer are left
pub step_leaves_fewer : (first : Stamp) (w : Progress) (place : ℕ) (now : Progress) → WorkStep first w place now → steps_left now.running < steps_left w.running
step_leaves_fewer first w place now s =
    let within = slice_get_within s.request.steps (length s.request.answers) s.step s.next in
    subst (λ (p : Progress). steps_left p.running < steps_left w.running) (sym s.now_is)
    (fewer_left w.running s.index s.request (effect w.items s.step (stamped first place)).1 s.there within)

-- and in later groups there are as many requests
pub step_keeps_later : (first : Stamp) (w : Progress) (place : ℕ) (now : Progress) → WorkStep first w place now → later now ≡ later w
step_keeps_later first w place now s =
    let answers = s.request.answers ++ (effect w.items s.step (stamped first place)).1 ∷ [] in
    subst (λ (p : Progress). later p ≡ later w) (sym s.now_is)
    (same_later w.group (slice_set w.running s.index (record s.request { answers = answers })) w.running (groups_set w.running s.index s.request answers s.there))

not_both : (p : BatchRequest → Bool) (rs : List BatchRequest) → list_any p rs ≡ true → list_all (λ r. not (p r)) rs ≡ true → ⊥
not_both p [] e h = absurd (cc e)
not_both p (x ∷ rs) e h =
    let parts = and_parts (not (p x)) (list_all (λ r. not (p r)) rs) h in
    not_both p rs (subst (λ (b : Bool). (b || list_any p rs) ≡ true) (not-true (p x) parts.0) e) parts.1

-- a place has a step left or none
pub has_or_none : (w : Progress) (place : ℕ) → HasStep w place → HasNoStep w place → ⊥
has_or_none w place has none = not_both (is_ready w.group place) w.running has none
