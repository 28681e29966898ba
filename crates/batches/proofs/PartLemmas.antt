-- How a list of requests is parted, from the front: into those that pass, up to a limit, and those that stay.
use Rattle.std.proofs.Common.{◌≡◌, ℕ, zero, suc, ◌-◌, ◌<◌, Bool, true, false, cond, not, ◌&&◌, ◌||◌, List, [], ◌∷◌, ◌++◌, length, take, filter, nat_eq, nat_lt, refl, sym, ap, ◌∙◌, arith, append_assoc, length-append}
use Rattle.std.specs.List.{list_any}
use Rattle.std.proofs.lemmas.Bool.{and_parts}
use Rattle.std.proofs.lemmas.Bool.Decides.{nat_tests}
use Rattle.indexmap.specs.IndexMap.{insert_entry, insert_all}
use Rattle.sessions.specs.declared.request.Request.{Request}
use Rattle.batches.specs.Waiting.{IsOneEach, keyed}
use Rattle.batches.proofs.OneEachLemmas.{same, Apart, apart_first, others_apart, apart-filter, apart-take, list_any-apart, filter_same, one_each-filter, insert_all-keyed}

and_none : (b : Bool) → b && false ≡ false
and_none true = refl
and_none false = refl

and_all : (b : Bool) → b && true ≡ b
and_all true = refl
and_all false = refl

turned : {A : Type 0} (b : Bool) (x y : A) → cond b x y ≡ cond (not b) y x
turned true x y = refl
turned false x y = refl

above_0 : (k : ℕ) → nat_lt 0 k ≡ true → 0 < k
above_0 k h = grind (arith, nat_tests)

and_true : (b : Bool) → b && true ≡ false → b ≡ false
and_true true h = h
and_true false h = refl

module _ (p q : Request → Bool) where
  -- what stays, if up to k that pass p are taken, and those that pass q are dropped
  abbrev pub staying : ℕ → List Request → List Request
  staying k [] = []
  staying k (r ∷ rs) = cond (nat_lt 0 k && p r) (staying (k - 1) rs) (cond (q r) (staying k rs) (r ∷ staying k rs))

  -- what was taken and what is left so far lead to the parts of the whole
  pub record Parting (limit : ℕ) (all rest taken : List Request) (left : List (ℕ × Request)) : Type 0 where
    pub takes : taken ++ take (limit - length taken) (filter p rest) ≡ take limit (filter p all)
    pub leaves : insert_all nat_eq left (keyed (staying (limit - length taken) rest)) ≡ insert_all nat_eq [] (keyed (staying limit all))

  take_first : {A : Type 0} (k : ℕ) (x : A) (xs : List A) → 0 < k → take k (x ∷ xs) ≡ x ∷ take (k - 1) xs
  take_first zero x xs h = absurd (omega arith)
  take_first (suc k) x xs h = ap (λ n. x ∷ take n xs) (omega arith)

  take_none : {A : Type 0} (k : ℕ) (xs ys : List A) → nat_lt 0 k ≡ false → take k xs ≡ take k ys
  take_none zero xs ys h = refl
  take_none (suc k) xs ys h = absurd (grind (arith, nat_tests))

  above_sub : (a b : ℕ) → nat_lt a b ≡ nat_lt 0 (b - a)
  above_sub a b = grind (arith, nat_tests)

  positive : (k : ℕ) → 0 < k → nat_lt 0 k ≡ true
  positive k h = grind (arith, nat_tests)

  take_passing : (k : ℕ) (r : Request) (rs : List Request) → 0 < k → p r ≡ true → take k (filter p (r ∷ rs)) ≡ r ∷ take (k - 1) (filter p rs)
  take_passing k r rs h pass = rw pass (take_first k r (filter p rs) h)

  take_other : (k : ℕ) (r : Request) (rs : List Request) → nat_lt 0 k && p r ≡ false → take k (filter p (r ∷ rs)) ≡ take k (filter p rs)
  take_other k r rs h = elim (p r) as (λ b. nat_lt 0 k && b ≡ false → take k (cond b (r ∷ filter p rs) (filter p rs)) ≡ take k (filter p rs)) [
    | true ↦ λ e. take_none k _ _ (and_true _ e)
    | false ↦ λ _. refl
  ] h

  staying_taken : (k : ℕ) (r : Request) (rs : List Request) → 0 < k → p r ≡ true → staying k (r ∷ rs) ≡ staying (k - 1) rs
  staying_taken k r rs h pass = rw (positive k h, pass) refl

  staying_dropped : (k : ℕ) (r : Request) (rs : List Request) → nat_lt 0 k && p r ≡ false → q r ≡ true → staying k (r ∷ rs) ≡ staying k rs
  staying_dropped k r rs not_taken past = rw (not_taken, past) refl

  staying_other : (k : ℕ) (r : Request) (rs : List Request) → nat_lt 0 k && p r ≡ false → q r ≡ false → staying k (r ∷ rs) ≡ r ∷ staying k rs
  staying_other k r rs not_taken new = rw (not_taken, new) refl

  pub begun : (limit : ℕ) (all : List Request) → Parting limit all all [] []
  begun limit all = record { takes = ap (λ k. take k (filter p all)) (omega arith); leaves = ap (λ k. insert_all nat_eq [] (keyed (staying k all))) (omega arith) }

  pub took : {limit : ℕ} {all rest taken : List Request} {left : List (ℕ × Request)} (r : Request) → Parting limit all (r ∷ rest) taken left → length taken < limit → p r ≡ true → Parting limit all rest (taken ++ r ∷ []) left
  took {limit} {all} {rest} {taken} {left} r h room pass =
      let one_less : limit - length (taken ++ r ∷ []) ≡ limit - length taken - 1 = rw length-append (omega arith) in
      record {
        takes = rw one_less (append_assoc taken (r ∷ []) _ ∙ ap (λ xs. taken ++ xs) (sym (take_passing (limit - length taken) r rest (omega arith) pass)) ∙ h.takes);
        leaves = rw one_less (ap (λ xs. insert_all nat_eq left (keyed xs)) (sym (staying_taken (limit - length taken) r rest (omega arith) pass)) ∙ h.leaves);
      }

  pub dropped : {limit : ℕ} {all rest taken : List Request} {left : List (ℕ × Request)} (r : Request) → Parting limit all (r ∷ rest) taken left → nat_lt (length taken) limit && p r ≡ false → q r ≡ true → Parting limit all rest taken left
  dropped {limit} {all} {rest} {taken} {left} r h not_taken past =
      let none : nat_lt 0 (limit - length taken) && p r ≡ false = rw (above_sub (length taken) limit) at not_taken in
      record {
        takes = ap (λ xs. taken ++ xs) (sym (take_other (limit - length taken) r rest none)) ∙ h.takes;
        leaves = ap (λ xs. insert_all nat_eq left (keyed xs)) (sym (staying_dropped (limit - length taken) r rest none past)) ∙ h.leaves;
      }

  pub stayed : {limit : ℕ} {all rest taken : List Request} {left : List (ℕ × Request)} (r : Request) → Parting limit all (r ∷ rest) taken left → nat_lt (length taken) limit && p r ≡ false → q r ≡ false → Parting limit all rest taken (insert_entry nat_eq left r.client r)
  stayed {limit} {all} {rest} {taken} {left} r h not_taken new =
      let none : nat_lt 0 (limit - length taken) && p r ≡ false = rw (above_sub (length taken) limit) at not_taken in
      record {
        takes = ap (λ xs. taken ++ xs) (sym (take_other (limit - length taken) r rest none)) ∙ h.takes;
        leaves = ap (λ xs. insert_all nat_eq left (keyed xs)) (sym (staying_other (limit - length taken) r rest none new)) ∙ h.leaves;
      }

  -- whether a request waits on: it is not past, and its client has none among these
  abbrev pub waits : List Request → Request → Bool
  waits batch r = not (q r) && not (list_any (λ b. nat_eq b.client r.client) batch)

  waits_taken : (r : Request) (batch : List Request) → waits (r ∷ batch) r ≡ false
  waits_taken r batch = ap (λ b. not (q r) && not (b || list_any (λ x. nat_eq x.client r.client) batch)) (same r.client) ∙ and_none (not (q r))

  waits_other : (r : Request) (batch : List Request) (x : Request) → nat_eq r.client x.client ≡ false → waits batch x ≡ waits (r ∷ batch) x
  waits_other r batch x h = ap (λ b. not (q x) && not (b || list_any (λ y. nat_eq y.client x.client) batch)) (sym h)

  waits_alone : (r : Request) (batch : List Request) → Apart r.client batch → waits batch r ≡ not (q r)
  waits_alone r batch h = ap (λ b. not (q r) && not b) (list_any-apart r.client batch h) ∙ and_all (not (q r))

  -- what stays is what is neither past nor of a client that has one taken
  pub staying_is : (k : ℕ) (rs : List Request) → IsOneEach rs → staying k rs ≡ filter (waits (take k (filter p rs))) rs
  staying_is k [] h = refl
  staying_is k (r ∷ rs) h =
      elim (nat_lt 0 k && p r) as (λ b. nat_lt 0 k && p r ≡ b → staying k (r ∷ rs) ≡ filter (waits (take k (filter p (r ∷ rs)))) (r ∷ rs)) [
        | true ↦ λ e.
            let parts = and_parts (nat_lt 0 k) (p r) e in
            let above : 0 < k = above_0 k parts.0 in
            let batch = take (k - 1) (filter p rs) in
            staying_taken k r rs above parts.1
            ∙ staying_is (k - 1) rs (others_apart r rs h)
            ∙ filter_same r.client (waits batch) (waits (r ∷ batch)) (waits_other r batch) rs (apart_first r rs h)
            ∙ ap (λ b. cond b (r ∷ filter (waits (r ∷ batch)) rs) (filter (waits (r ∷ batch)) rs)) (sym (waits_taken r batch))
            ∙ ap (λ t. filter (waits t) (r ∷ rs)) (sym (take_passing k r rs above parts.1))
        | false ↦ λ e.
            let batch = take k (filter p rs) in
            ap (λ b. cond b (staying (k - 1) rs) (cond (q r) (staying k rs) (r ∷ staying k rs))) e
            ∙ turned (q r) (staying k rs) (r ∷ staying k rs)
            ∙ ap (λ b. cond b (r ∷ staying k rs) (staying k rs)) (sym (waits_alone r batch (apart-take r.client k (filter p rs) (apart-filter r.client p rs (apart_first r rs h)))))
            ∙ ap (λ xs. cond (waits batch r) (r ∷ xs) xs) (staying_is k rs (others_apart r rs h))
            ∙ ap (λ t. filter (waits t) (r ∷ rs)) (sym (take_other k r rs e))
      ] refl

  -- all was gone over
  pub ended : {limit : ℕ} {all taken : List Request} {left : List (ℕ × Request)} → IsOneEach all → Parting limit all [] taken left → left ≡ keyed (filter (waits (take limit (filter p all))) all)
  ended {limit} {all} h parted =
      let batch = take limit (filter p all) in
      parted.leaves
      ∙ ap (λ xs. insert_all nat_eq [] (keyed xs)) (staying_is limit all h)
      ∙ insert_all-keyed (filter (waits batch) all) (one_each-filter (waits batch) all h)
