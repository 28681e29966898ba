-- What is left of the group that runs.
use Rattle.std.proofs.Common.{◌≡◌, ℕ, zero, suc, ◌<◌, Bool, true, false, List, [], ◌∷◌, length, Some, None, Option, refl, sym, ap, ◌∙◌, arith, subst, inl, inr}
use Rattle.std.specs.Prelude.{slice_get, IfSome, not, nat_lt, ◌||◌, ◌&&◌, ◌==◌}
use Rattle.std.specs.List.{list_all, list_any}
use Rattle.std.proofs.lemmas.Bool.{cases_Bool, and_from, and_parts, eq-eqb, eqb-true, ltb-true, ltb-false}
use Rattle.std.proofs.lemmas.Option.{same_Some}
use Rattle.batches.specs.declared.batch.Batch.{Batch}
use Rattle.round.proofs.Lists.{map_at}
use Rattle.states.specs.State.{StateView}
use Rattle.executor.specs.BatchRequest.{BatchRequest}
use Rattle.executor.specs.Round.{runners}
use Rattle.executor.specs.Work.{Progress, Worked, begun, is_complete, is_group_done, is_ready, HasStep, HasNoStep}
use Rattle.executor.specs.Through.{IsNotLeft, IsFirstLeft}
use Rattle.executor.specs.GroupRun.{IsUntouched, is_untouched}
use Rattle.executor.proofs.PartialLemmas.{Each, all-of-each, forget}
use Rattle.executor.proofs.OrderLemmas.{same_or_not}
use Rattle.executor.proofs.RoundLemmas.{get_map, fresh_rising}
use Rattle.executor.proofs.WorkedLemmas.{worked-partial}
use Rattle.executor.proofs.DoneLemmas.{ready_parts}

all_not : (p : BatchRequest → Bool) (rs : List BatchRequest) → Each (λ r. p r ≡ false) rs → list_all (λ r. not (p r)) rs ≡ true
all_not p [] h = refl
all_not p (r ∷ rs) h = rw (h 0 r refl) (all_not p rs (λ i. h (suc i)))

all_at : (p : BatchRequest → Bool) (rs : List BatchRequest) → list_all p rs ≡ true → (i : ℕ) (r : BatchRequest) → slice_get rs i ≡ Some r → p r ≡ true
all_at p [] e i r at = absurd (cc at)
all_at p (x ∷ rs) e zero r at = ap p (sym (same_Some x r at)) ∙ (and_parts (p x) (list_all p rs) e).0
all_at p (x ∷ rs) e (suc i) r at = all_at p rs (and_parts (p x) (list_all p rs) e).1 i r at

some_at : (p : BatchRequest → Bool) (rs : List BatchRequest) (i : ℕ) (r : BatchRequest) → slice_get rs i ≡ Some r → p r ≡ true → list_any p rs ≡ true
some_at p [] i r at e = absurd (cc at)
some_at p (x ∷ rs) zero r at e = rw (ap p (same_Some x r at) ∙ e) refl
some_at p (x ∷ rs) (suc i) r at e = by (p x) (some_at p rs i r at e)
  where
    by : (b : Bool) → list_any p rs ≡ true → (b || list_any p rs) ≡ true
    by true h = refl
    by false h = h

-- the first request that has a step left has one at its place
pub has_step : (w : Progress) (place : ℕ) → IsFirstLeft w.running w.group place → HasStep w place
has_step w place f =
    let ready : is_ready w.group place f.request ≡ true =
    and_from (f.request.place == place) ((f.request.group == w.group) && not (is_complete f.request)) (eq-eqb f.request.place place f.its)
    (and_from (f.request.group == w.group) (not (is_complete f.request)) (eq-eqb f.request.group w.group f.in_group) (ap not f.more)) in
    some_at (is_ready w.group place) w.running f.index f.request f.there ready

module _ (base : StateView) (batch : Batch) (ordered : Bool) (w : Progress) (worked : Worked base batch ordered w) where
  -- requests run in batch order
  rising : (i j : ℕ) (x y : BatchRequest) → slice_get w.running i ≡ Some x → slice_get w.running j ≡ Some y → i < j → x.place < y.place
  rising i j x y at there l =
      let p = worked-partial base batch ordered w worked in
      let r = get_map (begun batch ordered) (runners base batch) i (forget x) (ap (λ xs. slice_get xs i) (sym p.same) ∙ map_at forget w.running i x at) in
      let t = get_map (begun batch ordered) (runners base batch) j (forget y) (ap (λ xs. slice_get xs j) (sym p.same) ∙ map_at forget w.running j y there) in
      let a : x.place ≡ r.0.0 = ap (λ (z : BatchRequest). z.place) r.2 in
      let b : y.place ≡ t.0.0 = ap (λ (z : BatchRequest). z.place) t.2 in
      let up : r.0.0 < t.0.0 = fresh_rising base.sessions [] batch.requests i j r.0 t.0 r.1 t.1 l in
      omega (arith, a, b, up)

  -- below the place of the first request that has a step left there is none
  pub none_lower : (place : ℕ) → IsFirstLeft w.running w.group place → (lower : ℕ) → lower < place → HasNoStep w lower
  none_lower place f lower l = all_not (is_ready w.group lower) w.running (λ i x at. by i x at (is_ready w.group lower x) refl)
    where
      none : (i : ℕ) (x : BatchRequest) → slice_get w.running i ≡ Some x → x.place ≡ lower → x.group ≡ w.group → is_complete x ≡ true
      none i x at its in_group = elim (cases_Bool (nat_lt i f.index)) [
        | inl t ↦ subst (IsNotLeft w.group) at (f.earlier i (ltb-true i f.index t)) in_group
        | inr u ↦ elim (same_or_not i f.index) [
          | inl e ↦ absurd (let is : x.place ≡ place = ap (λ (z : BatchRequest). z.place) (same_Some x f.request (sym at ∙ ap (slice_get w.running) e ∙ f.there)) ∙ f.its in omega (arith, l, its, is))
          | inr d ↦ absurd (let past = ltb-false i f.index u in let up = rising f.index i f.request x f.there at (omega (arith, past, d)) in omega (arith, l, its, f.its, up))
        ]
      ]

      by : (i : ℕ) (x : BatchRequest) → slice_get w.running i ≡ Some x → (b : Bool) → is_ready w.group lower x ≡ b → b ≡ false
      by i x at false e = refl
      by i x at true e =
          let parts = ready_parts w.group lower x e in
          let clash : true ≡ false = sym (none i x at parts.0 parts.1) ∙ parts.2 in
          clash

-- the place that comes next
pub step_is_next : (w : Progress) (next : Option ℕ) → IfSome next (λ place. IsFirstLeft w.running w.group place) → IfSome next (λ place. HasStep w place)
step_is_next w None f = tt
step_is_next w (Some place) f = has_step w place f

-- if no step is left no place comes next
pub none_is_next : (w : Progress) → is_group_done w ≡ true → (next : Option ℕ) → IfSome next (λ place. IsFirstLeft w.running w.group place) → next ≡ None
none_is_next w done None f = refl
none_is_next w done (Some place) f =
    let own : (not (f.request.group == w.group) || is_complete f.request) ≡ true = all_at (λ r. not (r.group == w.group) || is_complete r) w.running done f.index f.request f.there in
    let both : (not true || false) ≡ true = (λ i. not (sym (eq-eqb f.request.group w.group f.in_group) i) || sym f.more i) ∙ own in
    absurd (let clash : false ≡ true = both in cc clash)

pub lowest_is_next : (base : StateView) (batch : Batch) (ordered : Bool) (w : Progress) → Worked base batch ordered w → (next : Option ℕ) → IfSome next (λ place. IsFirstLeft w.running w.group place)
    → IfSome next (λ place. (lower : ℕ) → lower < place → HasNoStep w lower)
lowest_is_next base batch ordered w worked None f = tt
lowest_is_next base batch ordered w worked (Some place) f = none_lower base batch ordered w worked place f

-- if no request made a step, none of the group did
pub untouched_in_group : (w : Progress) → is_untouched w ≡ true → IsUntouched w
untouched_in_group w e =
    all-of-each (λ r. r.group ≡ w.group → r.answers ≡ []) w.running (λ i r at in_group. empty r.answers (eqb-true (length r.answers) 0 (all_at (λ x. length x.answers == 0) w.running e i r at)))
  where
    empty : {X : Type 0} (xs : List X) → length xs ≡ 0 → xs ≡ []
    empty [] e = refl
    empty (x ∷ xs) e = absurd (omega (arith, e))
