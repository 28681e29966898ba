-- Work that is done is a round.
use Rattle.std.proofs.Common.{◌≡◌, ◌≢◌, ℕ, zero, suc, ◌+◌, ◌<◌, ◌≤◌, Bool, true, false, List, [], ◌∷◌, ◌++◌, map, length, take, set, Some, Option, refl, sym, ap, ◌∙◌, arith, subst, inl, inr, append_assoc}
use Rattle.std.specs.Prelude.{slice_get, ◌==◌, filter, if◌then◌else◌}
use Rattle.std.specs.List.{AllByRecursion, range_with_len}
use Rattle.std.proofs.lemmas.List.{map-append, length_push, take_all}
use Rattle.std.proofs.lemmas.List.Elements.{filter-append}
use Rattle.std.proofs.lemmas.Bool.{cases_Bool, eq-eqb, eqb-true, ne_eqb}
use Rattle.std.proofs.lemmas.Option.{same_Some}
use Rattle.round.proofs.Lists.{set_there, set_else}
use Rattle.items.specs.Map.{Items}
use Rattle.item_steps.specs.Steps.{steps}
use Rattle.item_steps.specs.Schedule.{Placed, items_after, answers_at}
use Rattle.item_steps.specs.declared.step.Stamp.{Stamp}
use Rattle.item_steps.specs.declared.step.Answer.{Answer}
use Rattle.batches.specs.declared.batch.Batch.{Batch}
use Rattle.executor.specs.BatchRequest.{BatchRequest}
use Rattle.states.specs.State.{StateView}
use Rattle.sessions.specs.declared.request.Request.{Request}
use Rattle.sessions.specs.Fresh.{Replies}
use Rattle.executor.specs.Fresh.{Runner, runs, fresh_after}
use Rattle.executor.specs.Round.{group_of, steps_in, GroupsRun}
use Rattle.executor.specs.Work.{begun}
use Rattle.executor.proofs.OrderLemmas.{same_or_not}
use Rattle.executor.proofs.PartialLemmas.{Each, made_in, forget}

-- groups after groups
pub groups_append : (f : ℕ → List (List Placed)) (base : Stamp) (m start now : Items) (gs hs : List ℕ) (seen more : List (ℕ × Answer))
    → GroupsRun f base m gs start seen → GroupsRun f base start hs now more → GroupsRun f base m (gs ++ hs) now (seen ++ more)
groups_append f base m start now [] hs seen more g h = subst (λ (x : Items × List (ℕ × Answer)). GroupsRun f base x.0 hs now (x.1 ++ more)) (λ i. (g.0 i, sym g.1 i)) h
groups_append f base m start now (x ∷ gs) hs seen more g h =
    (g.0, g.1 ++ more, g.2, groups_append f base (items_after base m g.0) start now gs hs g.1 more g.3 h, ap (λ xs. xs ++ more) g.4 ∙ append_assoc _ g.1 more)

-- groups in which nothing is to be done
pub groups_empty : (f : ℕ → List (List Placed)) (base : Stamp) (m : Items) (gs : List ℕ) → ((i : ℕ) (g : ℕ) → slice_get gs i ≡ Some g → AllByRecursion (λ list. list ≡ []) (f g)) → GroupsRun f base m gs m []
groups_empty f base m [] none = (refl, refl)
groups_empty f base m (g ∷ gs) none = ([], [], none 0 g refl, groups_empty f base m gs (λ i. none (suc i)), refl)

-- the numbers from one on, parted
pub range_parts : (from n more : ℕ) → range_with_len from (n + more) ≡ range_with_len from n ++ range_with_len (from + n) more
range_parts from zero more =
    let none : 0 + more ≡ more = omega arith in
    let here : from ≡ from + 0 = omega arith in
    ap (range_with_len from) none ∙ ap (λ k. range_with_len k more) here
range_parts from (suc n) more =
    let count : suc n + more ≡ suc (n + more) = omega arith in
    let next : from + 1 + n ≡ from + suc n = omega arith in
    let here : range_with_len from (suc n + more) ≡ range_with_len from (suc (n + more)) = ap (range_with_len from) count in
    let later : range_with_len (from + 1 + n) more ≡ range_with_len (from + suc n) more = ap (λ k. range_with_len k more) next in
    here ∙ ap (λ xs. from ∷ xs) (range_parts (from + 1) n more ∙ ap (λ xs. range_with_len (from + 1) n ++ xs) later)

pub range_at : (from n i g : ℕ) → slice_get (range_with_len from n) i ≡ Some g → (from ≤ g) × (g < from + n)
range_at from zero i g at = absurd (cc at)
range_at from (suc n) zero g at = let e : from ≡ g = cc at in (omega (arith, e), omega (arith, e))
range_at from (suc n) (suc i) g at = let later = range_at (from + 1) n i g at in (omega (arith, later.0), omega (arith, later.1))

-- lists that are all empty
pub all_empty : {X Y : Type 0} (f : X → List Y) (xs : List X) → Each (λ x. f x ≡ []) xs → AllByRecursion (λ list. list ≡ []) (map f xs)
all_empty f [] h = tt
all_empty f (x ∷ xs) h = (h 0 x refl, all_empty f xs (λ i. h (suc i)))

-- ---- members of lists

pub get_map : {X Y : Type 0} (f : X → Y) (xs : List X) (i : ℕ) (y : Y) → slice_get (map f xs) i ≡ Some y → (x : X) × (slice_get xs i ≡ Some x) × (y ≡ f x)
get_map f [] i y at = absurd (cc at)
get_map f (x ∷ xs) zero y at = (x, refl, (let e : f x ≡ y = cc at in sym e))
get_map f (x ∷ xs) (suc i) y at = get_map f xs i y at

pub each_set : {X : Type 0} (Q : X → Type 0) (xs : List X) (i : ℕ) (x y : X) → slice_get xs i ≡ Some x → ((j : ℕ) (z : X) → i ≢ j → slice_get xs j ≡ Some z → Q z) → Q y → Each Q (set xs i y)
each_set Q xs i x y there others here j z at = elim (same_or_not i j) [
  | inl e ↦
      let is : y ≡ z = same_Some y z (sym (set_there xs i y x there) ∙ ap (slice_get (set xs i y)) e ∙ at) in
      subst Q is here
  | inr d ↦ others j z d (sym (set_else xs i y j (λ e. d (sym e))) ∙ at)
]

-- ---- which requests run

fresh_low : (s : Replies) (earlier later : List Request) (i : ℕ) (r : Runner) → slice_get (fresh_after s earlier later) i ≡ Some r → length earlier ≤ r.0
fresh_low s earlier [] i r at = absurd (cc at)
fresh_low s earlier (q ∷ later) i r at = by (fresh_low s (earlier ++ q ∷ []) later) (runs s earlier q) i at
  where
    by : ((i : ℕ) (r : Runner) → slice_get (fresh_after s (earlier ++ q ∷ []) later) i ≡ Some r → length (earlier ++ q ∷ []) ≤ r.0) → (b : Bool) (i : ℕ) → slice_get ((if b then (length earlier, q) ∷ [] else []) ++ fresh_after s (earlier ++ q ∷ []) later) i ≡ Some r → length earlier ≤ r.0
    by low true zero at = let e : length earlier ≡ r.0 = ap (λ (o : Runner). o.0) (same_Some (length earlier, q) r at) in omega (arith, e)
    by low true (suc i) at = omega (arith, low i r at, length_push earlier q)
    by low false i at = omega (arith, low i r at, length_push earlier q)

-- the requests that run are in batch order
pub fresh_rising : (s : Replies) (earlier later : List Request) (i j : ℕ) (r t : Runner) → slice_get (fresh_after s earlier later) i ≡ Some r → slice_get (fresh_after s earlier later) j ≡ Some t → i < j → r.0 < t.0
fresh_rising s earlier [] i j r t at there l = absurd (cc at)
fresh_rising s earlier (q ∷ later) i j r t at there l = by (λ i j a b l. fresh_rising s (earlier ++ q ∷ []) later i j r t a b l) (runs s earlier q) i j at there l
  where
    low : (i : ℕ) (r : Runner) → slice_get (fresh_after s (earlier ++ q ∷ []) later) i ≡ Some r → length earlier < r.0
    low i r at = omega (arith, fresh_low s (earlier ++ q ∷ []) later i r at, length_push earlier q)

    head : (r : Runner) → ◌≡◌ {A = Option Runner} (Some (length earlier, q)) (Some r) → length earlier ≡ r.0
    head r at = ap (λ (o : Runner). o.0) (same_Some (length earlier, q) r at)

    by : ((i j : ℕ) → slice_get (fresh_after s (earlier ++ q ∷ []) later) i ≡ Some r → slice_get (fresh_after s (earlier ++ q ∷ []) later) j ≡ Some t → i < j → r.0 < t.0)
        → (b : Bool) (i j : ℕ) → slice_get ((if b then (length earlier, q) ∷ [] else []) ++ fresh_after s (earlier ++ q ∷ []) later) i ≡ Some r
        → slice_get ((if b then (length earlier, q) ∷ [] else []) ++ fresh_after s (earlier ++ q ∷ []) later) j ≡ Some t → i < j → r.0 < t.0
    by rising true zero zero at there l = absurd (omega (arith, l))
    by rising true zero (suc j) at there l = omega (arith, head r at, low j t there)
    by rising true (suc i) zero at there l = absurd (omega (arith, l))
    by rising true (suc i) (suc j) at there l = rising i j at there (omega (arith, l))
    by rising false i j at there l = rising i j at there l

pub fresh_apart : (s : Replies) (earlier later : List Request) (i j : ℕ) (r t : Runner) → slice_get (fresh_after s earlier later) i ≡ Some r → slice_get (fresh_after s earlier later) j ≡ Some t → r.0 ≡ t.0 → i ≡ j
fresh_apart s earlier [] i j r t at there e = absurd (cc at)
fresh_apart s earlier (q ∷ later) i j r t at there e = by (λ i j a b. fresh_apart s (earlier ++ q ∷ []) later i j r t a b e) (runs s earlier q) i j at there
  where
    low : (i : ℕ) (r : Runner) → slice_get (fresh_after s (earlier ++ q ∷ []) later) i ≡ Some r → length earlier < r.0
    low i r at = omega (arith, fresh_low s (earlier ++ q ∷ []) later i r at, length_push earlier q)

    head : (r : Runner) → ◌≡◌ {A = Option Runner} (Some (length earlier, q)) (Some r) → length earlier ≡ r.0
    head r at = ap (λ (o : Runner). o.0) (same_Some (length earlier, q) r at)

    by : ((i j : ℕ) → slice_get (fresh_after s (earlier ++ q ∷ []) later) i ≡ Some r → slice_get (fresh_after s (earlier ++ q ∷ []) later) j ≡ Some t → i ≡ j)
        → (b : Bool) (i j : ℕ) → slice_get ((if b then (length earlier, q) ∷ [] else []) ++ fresh_after s (earlier ++ q ∷ []) later) i ≡ Some r
        → slice_get ((if b then (length earlier, q) ∷ [] else []) ++ fresh_after s (earlier ++ q ∷ []) later) j ≡ Some t → i ≡ j
    by apart true zero zero at there = refl
    by apart true zero (suc j) at there = absurd (omega (arith, e, head r at, low j t there))
    by apart true (suc i) zero at there = absurd (omega (arith, e, head t there, low i r at))
    by apart true (suc i) (suc j) at there = ap suc (apart i j at there)
    by apart false i j at there = apart i j at there

-- ---- answers of one request

pub answers_at-append : (place : ℕ) (xs ys : List (ℕ × Answer)) → answers_at place (xs ++ ys) ≡ answers_at place xs ++ answers_at place ys
answers_at-append place xs ys =
    ap (map (λ (a : ℕ × Answer). a.1)) (filter-append (λ (a : ℕ × Answer). a.0 == place) xs ys)
    ∙ map-append (λ (a : ℕ × Answer). a.1) (filter (λ a. a.0 == place) xs) (filter (λ a. a.0 == place) ys)

pub answers_at-own : (place : ℕ) (a : Answer) → answers_at place ((place, a) ∷ []) ≡ a ∷ []
answers_at-own place a = rw (eq-eqb place place refl) refl

pub answers_at-other : (place other : ℕ) (a : Answer) → other ≢ place → answers_at place ((other, a) ∷ []) ≡ []
answers_at-other place other a n = rw (ne_eqb other place n) refl

-- ---- the steps made in a group, and all of them

same_test : (m n g : ℕ) (b : Bool) → m ≡ n → (m == g) ≡ b → (n == g) ≡ b
same_test m n g b e t = ap (λ k. k == g) (sym e) ∙ t

module _ (base : StateView) (batch : Batch) (ordered : Bool) where
  made_one : (g : ℕ) (x : BatchRequest) (r : Runner) → forget x ≡ begun batch ordered r → (x.group ≡ g → length x.steps ≤ length x.answers) → made_in g x ≡ steps_in batch ordered g r
  made_one g x r e done = elim (cases_Bool (x.group == g)) [
    | inl t ↦
        let all : take (length x.answers) x.steps ≡ x.steps = take_all (length x.answers) x.steps (done (eqb-true x.group g t)) in
        rw (t, same_test x.group (group_of batch ordered r) g true group_is t)
        (ap (map (λ step. (x.place, step))) all ∙ (λ i. map (λ step. (place_is i, step)) (steps_are i)))
    | inr t ↦ rw (t, same_test x.group (group_of batch ordered r) g false group_is t) refl
  ]
    where
      group_is : x.group ≡ group_of batch ordered r
      group_is = ap (λ (y : BatchRequest). y.group) e

      place_is : x.place ≡ r.0
      place_is = ap (λ (y : BatchRequest). y.place) e

      steps_are : x.steps ≡ steps r.1.command
      steps_are = ap (λ (y : BatchRequest). y.steps) e

  pub made_all : (g : ℕ) (running : List BatchRequest) (rs : List Runner) → map forget running ≡ map (begun batch ordered) rs
      → Each (λ x. x.group ≡ g → length x.steps ≤ length x.answers) running → map (made_in g) running ≡ map (steps_in batch ordered g) rs
  made_all g [] [] e done = refl
  made_all g [] (r ∷ rs) e done = absurd (cc e)
  made_all g (x ∷ running) [] e done = absurd (cc e)
  made_all g (x ∷ running) (r ∷ rs) e done =
      let head : forget x ≡ begun batch ordered r = cc e in
      let tail : map forget running ≡ map (begun batch ordered) rs = cc e in
      let one = made_one g x r head (done 0 x refl) in
      let others = made_all g running rs tail (λ i. done (suc i)) in
      (λ i. one i ∷ others i)

  -- nothing is made in a group of which no request has answers
  pub none_made : (g : ℕ) (running : List BatchRequest) → Each (λ x. x.group ≡ g → x.answers ≡ []) running → AllByRecursion (λ list. list ≡ []) (map (made_in g) running)
  none_made g running none = all_empty (made_in g) running (λ i x at. one x (none i x at))
    where
      one : (x : BatchRequest) → (x.group ≡ g → x.answers ≡ []) → made_in g x ≡ []
      one x h = elim (cases_Bool (x.group == g)) [
        | inl t ↦ rw (t, h (eqb-true x.group g t)) refl
        | inr t ↦ rw t refl
      ]

  -- in a group of no request there are no steps
  pub no_steps : (g : ℕ) (rs : List Runner) → Each (λ r. group_of batch ordered r ≢ g) rs → AllByRecursion (λ list. list ≡ []) (map (steps_in batch ordered g) rs)
  no_steps g rs apart = all_empty (steps_in batch ordered g) rs (λ i r at. one r (apart i r at))
    where
      one : (r : Runner) → group_of batch ordered r ≢ g → steps_in batch ordered g r ≡ []
      one r n = rw (ne_eqb (group_of batch ordered r) g n) refl
