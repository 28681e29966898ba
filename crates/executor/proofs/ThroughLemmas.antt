-- Steps of work, and one group after the other.
use Rattle.std.proofs.Common.{◌≡◌, ℕ, zero, suc, ◌<◌, ◌≤◌, Bool, true, false, List, [], ◌∷◌, map, length, set, Some, refl, sym, ap, ◌∙◌, arith, subst, filter, nat_lt}
use Rattle.std.specs.Prelude.{slice_get, not, ◌||◌, ◌==◌, if◌then◌else◌}
use Rattle.std.specs.List.{list_all}
use Rattle.std.proofs.lemmas.Bool.{eqb-true, ltb-true, ltb-false, lt-ltb}
use Rattle.std.proofs.lemmas.Bool.Decides.{nat_tests}
use Rattle.std.proofs.lemmas.Option.{same_Some}
use Rattle.item_steps.specs.Schedule.{stamped}
use Rattle.item_steps.specs.declared.step.Stamp.{Stamp}
use Rattle.items.specs.Map.{Items}
use Rattle.executor.specs.BatchRequest.{BatchRequest}
use Rattle.executor.specs.Work.{Progress, StepDone, IsNextGroup, is_complete}
use Rattle.executor.specs.Through.{IsNotLeft, WorkStepAt}

-- a step that was made on the items is a step made at the index
pub step_at : (first : Stamp) (w : Progress) (i : ℕ) (r now : BatchRequest) (after : Items) → slice_get w.running i ≡ Some r → r.group ≡ w.group → StepDone r w.items (stamped first r.place) now after
    → WorkStepAt first w i (record { items = after; running = set w.running i now; group = w.group })
step_at first w i r now after at in_group d = record {
  place = r.place;
  made = record {
    index = i;
    request = r;
    step = d.step;
    there = at;
    its = refl;
    in_group = in_group;
    next = d.next;
    now_is = λ k. record { items = d.items k; running = set w.running i (d.noted k); group = w.group };
  };
  its = refl;
}

-- if all requests ran the group is done
pub all_ran : (group : ℕ) (running : List BatchRequest) → ((j : ℕ) → j < length running → IsNotLeft group (slice_get running j)) → list_all (λ r. not (r.group == group) || is_complete r) running ≡ true
all_ran group [] h = refl
all_ran group (r ∷ running) h = rw (here r (h 0 (omega arith))) (all_ran group running (λ j l. h (suc j) (omega (arith, l))))
  where
    here : (x : BatchRequest) → (x.group ≡ group → is_complete x ≡ true) → (not (x.group == group) || is_complete x) ≡ true
    here x d = by (x.group == group) refl
      where
        by : (b : Bool) → (x.group == group) ≡ b → (not b || is_complete x) ≡ true
        by false e = refl
        by true e = d (eqb-true x.group group e)

-- requests in the same groups are as many in later ones
pub same_later : (group : ℕ) (xs ys : List BatchRequest) → map (λ r. r.group) xs ≡ map (λ r. r.group) ys → length (filter (λ r. nat_lt group r.group) xs) ≡ length (filter (λ r. nat_lt group r.group) ys)
same_later group [] [] e = refl
same_later group [] (y ∷ ys) e = absurd (cc e)
same_later group (x ∷ xs) [] e = absurd (cc e)
same_later group (x ∷ xs) (y ∷ ys) e =
    let head : x.group ≡ y.group = cc e in
    let tail : map (λ r. r.group) xs ≡ map (λ r. r.group) ys = cc e in
    by (nat_lt group x.group) refl (nat_lt group y.group) refl head (same_later group xs ys tail)
  where
    by : (a : Bool) → nat_lt group x.group ≡ a → (b : Bool) → nat_lt group y.group ≡ b → x.group ≡ y.group → length (filter (λ r. nat_lt group r.group) xs) ≡ length (filter (λ r. nat_lt group r.group) ys)
        → length (if a then x ∷ filter (λ r. nat_lt group r.group) xs else filter (λ r. nat_lt group r.group) xs) ≡ length (if b then y ∷ filter (λ r. nat_lt group r.group) ys else filter (λ r. nat_lt group r.group) ys)
    by true p true q h t = ap suc t
    by false p false q h t = t
    by true p false q h t = absurd (let clash : true ≡ false = sym p ∙ ap (nat_lt group) h ∙ q in cc clash)
    by false p true q h t = absurd (let clash : false ≡ true = sym p ∙ ap (nat_lt group) h ∙ q in cc clash)

-- ---- one group after the other

-- of two groups the later has no more requests after it
no_more : (low high : ℕ) → low ≤ high → (rs : List BatchRequest) → length (filter (λ r. nat_lt high r.group) rs) ≤ length (filter (λ r. nat_lt low r.group) rs)
no_more low high l [] = omega arith
no_more low high l (r ∷ rs) = by (nat_lt high r.group) refl (nat_lt low r.group) refl (no_more low high l rs)
  where
    by : (a : Bool) → nat_lt high r.group ≡ a → (b : Bool) → nat_lt low r.group ≡ b → length (filter (λ x. nat_lt high x.group) rs) ≤ length (filter (λ x. nat_lt low x.group) rs)
        → length (if a then r ∷ filter (λ x. nat_lt high x.group) rs else filter (λ x. nat_lt high x.group) rs) ≤ length (if b then r ∷ filter (λ x. nat_lt low x.group) rs else filter (λ x. nat_lt low x.group) rs)
    by true p true q h = omega (arith, h)
    by false p false q h = h
    by false p true q h = omega (arith, h)
    by true p false q h = absurd (let above = ltb-true high r.group p in let below = ltb-false low r.group q in omega (arith, above, below, l))

-- a request of the later group comes after the first one, and not after itself
fewer : (low : ℕ) (rs : List BatchRequest) (i : ℕ) (r : BatchRequest) → slice_get rs i ≡ Some r → low < r.group → length (filter (λ x. nat_lt r.group x.group) rs) < length (filter (λ x. nat_lt low x.group) rs)
fewer low [] i r at l = absurd (cc at)
fewer low (x ∷ rs) zero r at l =
    let here : x ≡ r = same_Some x r at in
    subst (λ (y : BatchRequest). length (filter (λ z. nat_lt r.group z.group) (y ∷ rs)) < length (filter (λ z. nat_lt low z.group) (y ∷ rs))) (sym here)
    (rw (not_after r.group, lt-ltb low r.group l) (let more = no_more low r.group (omega (arith, l)) rs in omega (arith, more)))
  where
    not_after : (n : ℕ) → nat_lt n n ≡ false
    not_after n = grind (arith, nat_tests)
fewer low (x ∷ rs) (suc i) r at l = by (nat_lt r.group x.group) refl (nat_lt low x.group) refl (fewer low rs i r at l)
  where
    by : (a : Bool) → nat_lt r.group x.group ≡ a → (b : Bool) → nat_lt low x.group ≡ b → length (filter (λ z. nat_lt r.group z.group) rs) < length (filter (λ z. nat_lt low z.group) rs)
        → length (if a then x ∷ filter (λ z. nat_lt r.group z.group) rs else filter (λ z. nat_lt r.group z.group) rs) < length (if b then x ∷ filter (λ z. nat_lt low z.group) rs else filter (λ z. nat_lt low z.group) rs)
    by true p true q h = omega (arith, h)
    by false p false q h = h
    by false p true q h = omega (arith, h)
    by true p false q h = absurd (let above = ltb-true r.group x.group p in let below = ltb-false low x.group q in omega (arith, above, below, l))

-- fewer requests come after the next group than after this one
pub fewer_later : (running : List BatchRequest) (group next : ℕ) → IsNextGroup running (Some group) next → length (filter (λ r. nat_lt next r.group) running) < length (filter (λ r. nat_lt group r.group) running)
fewer_later running group next n =
    let above : group < n.request.group = ltb-true group n.request.group (ap (nat_lt group) n.its ∙ n.above) in
    subst (λ g. length (filter (λ r. nat_lt g r.group) running) < length (filter (λ r. nat_lt group r.group) running)) n.its (fewer group running n.index n.request n.there above)
