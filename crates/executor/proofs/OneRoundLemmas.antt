-- What determines a round.
use Rattle.std.proofs.Common.{◌≡◌, ℕ, zero, suc, ◌+◌, ◌<◌, Bool, true, false, List, [], ◌∷◌, ◌++◌, map, set, Some, Option, refl, sym, ap, ◌∙◌, arith, subst, inl, inr}
use Rattle.std.specs.Prelude.{All, slice_get, ◌==◌, if◌then◌else◌}
use Rattle.std.specs.List.{AllByRecursion, range_with_len}
use Rattle.std.proofs.lemmas.Bool.{eqb-true}
use Rattle.items.specs.Map.{Items, alive}
use Rattle.item_steps.specs.Steps.{steps}
use Rattle.item_steps.specs.Schedule.{Placed, IsInterleaving, items_after, answers_in}
use Rattle.item_steps.specs.declared.step.Stamp.{Stamp}
use Rattle.item_steps.specs.declared.step.Answer.{Answer}
use Rattle.batches.specs.declared.batch.Batch.{Batch}
use Rattle.executor.specs.declared.answered.Answered.{Answered}
use Rattle.states.specs.State.{StateView, with_token}
use Rattle.executor.specs.Fresh.{Runner}
use Rattle.states.specs.Followed.{moment_of}
use Rattle.executor.specs.Round.{runners, first_place, steps_in, GroupsRun, answered, kept_after, Round}
use Rattle.executor.specs.Orders.{orders_in, orders_of}
use Rattle.round.proofs.Lists.{set_else}
use Rattle.executor.proofs.OrderLemmas.{same_or_not}
use Rattle.executor.proofs.PartialLemmas.{Each, each-of-all}
use Rattle.executor.proofs.RoundLemmas.{get_map, all_empty, fresh_apart}

-- ---- groups in the same orders

-- groups that run in the same orders lead to the same items and answers
groups_same : (f : ℕ → List (List Placed)) (base : Stamp) (gs hs : List ℕ) (m k new now : Items) (seen also : List (ℕ × Answer)) → m ≡ k
    → (a : GroupsRun f base m gs new seen) (b : GroupsRun f base k hs now also)
    → orders_in f base m gs new seen a ≡ orders_in f base k hs now also b → (new ≡ now) × (seen ≡ also)
groups_same f base [] [] m k new now seen also e a b same = (a.0 ∙ e ∙ sym b.0, a.1 ∙ sym b.1)
groups_same f base [] (h ∷ hs) m k new now seen also e a b same = absurd (cc same)
groups_same f base (g ∷ gs) [] m k new now seen also e a b same = absurd (cc same)
groups_same f base (g ∷ gs) (h ∷ hs) m k new now seen also e a b same =
    let first : a.0 ≡ b.0 = cc same in
    let rest : orders_in f base (items_after base m a.0) gs new a.1 a.3 ≡ orders_in f base (items_after base k b.0) hs now b.1 b.3 = cc same in
    let items : items_after base m a.0 ≡ items_after base k b.0 = λ i. items_after base (e i) (first i) in
    let later = groups_same f base gs hs (items_after base m a.0) (items_after base k b.0) new now a.1 b.1 items a.3 b.3 rest in
    (later.0, a.4 ∙ (λ i. answers_in base (e i) (first i) ++ later.1 i) ∙ sym b.4)

module _ (base : StateView) (batch : Batch) (ordered : Bool) where
  -- rounds that lead to the same items and answers are one
  rest_same : (new now : StateView) (replies also : List Answered) (a : Round base batch ordered new replies) (b : Round base batch ordered now also)
      → new.items ≡ now.items → a.answers ≡ b.answers → (new ≡ now) × (replies ≡ also)
  rest_same new now replies also a b items answers =
      let told : replies ≡ also = a.replied ∙ (λ i. map (answered (answers i)) (runners base batch)) ∙ sym b.replied in
      let sessions : new.sessions ≡ now.sessions = a.sessions ∙ ap (kept_after base.sessions) told ∙ sym b.sessions in
      let form : new.form ≡ now.form = a.form ∙ sym b.form in
      let number : new.number ≡ now.number = a.number ∙ sym b.number in
      let previous : new.previous ≡ now.previous = a.previous ∙ sym b.previous in
      let epoch : new.epoch ≡ now.epoch = a.epoch ∙ sym b.epoch in
      let digest : new.batch ≡ now.batch = a.batch_is ∙ sym b.batch_is in
      let moment : new.moment ≡ now.moment = a.moment ∙ sym b.moment in
      let known : with_token new ≡ with_token now = λ i. with_token (record {
        form = form i;
        number = number i;
        previous = previous i;
        epoch = epoch i;
        batch = digest i;
        moment = moment i;
        token = base.token;
        sessions = sessions i;
        items = items i;
      }) in
      (a.token ∙ known ∙ sym b.token, told)

  pub same_orders : (new now : StateView) (replies also : List Answered) (a : Round base batch ordered new replies) (b : Round base batch ordered now also)
      → orders_of a ≡ orders_of b → (new ≡ now) × (replies ≡ also)
  same_orders new now replies also a b same =
      let start = alive base.items (moment_of base batch) in
      let both = groups_same (λ group. map (steps_in batch ordered group) (runners base batch)) (first_place base batch) (range_with_len 0 a.groups) (range_with_len 0 b.groups)
      start start new.items now.items a.answers b.answers refl a.run b.run same in
      rest_same new now replies also a b both.0 both.1

-- ---- one list has one order

-- at most one of the lists has a member
abbrev IsLone : {X : Type 0} → List (List X) → Type 0
IsLone {X} lists = (i j : ℕ) (x y : X) (xs ys : List X) → slice_get lists i ≡ Some (x ∷ xs) → slice_get lists j ≡ Some (y ∷ ys) → i ≡ j

module _ {X : Type 0} where
  all_none : (lists : List (List X)) (i : ℕ) (x : X) (xs : List X) → AllByRecursion (λ list. list ≡ []) lists → slice_get lists i ≡ Some (x ∷ xs) → ⊥
  all_none [] i x xs all at = absurd (cc at)
  all_none (l ∷ lists) zero x xs all at = absurd (let e : l ≡ x ∷ xs = cc at in let none : [] ≡ x ∷ xs = sym all.0 ∙ e in cc none)
  all_none (l ∷ lists) (suc i) x xs all at = all_none lists i x xs all.1 at

  -- a list that has a member after one was taken had one before
  had_one : (lists : List (List X)) (i j : ℕ) (x y : X) (xs ys : List X) → slice_get lists i ≡ Some (x ∷ xs) → slice_get (set lists i xs) j ≡ Some (y ∷ ys)
      → (z : X) × (zs : List X) × (slice_get lists j ≡ Some (z ∷ zs))
  had_one lists i j x y xs ys at there = elim (same_or_not j i) [
    | inl e ↦ (x, xs, ap (slice_get lists) e ∙ at)
    | inr d ↦ (y, ys, sym (set_else lists i xs j d) ∙ there)
  ]

  lone_rest : (lists : List (List X)) (i : ℕ) (x : X) (xs : List X) → slice_get lists i ≡ Some (x ∷ xs) → IsLone lists → IsLone (set lists i xs)
  lone_rest lists i x xs at lone j k y z ys zs a b =
      let one = had_one lists i j x y xs ys at a in
      let two = had_one lists i k x z xs zs at b in
      lone j k one.0 two.0 one.1 two.1 one.2 two.2

  one_order : (lists : List (List X)) (a b : List X) → IsLone lists → IsInterleaving lists a → IsInterleaving lists b → a ≡ b
  one_order lists [] [] lone h k = refl
  one_order lists [] (y ∷ b) lone h k = absurd (all_none lists k.0 y k.1 h k.2)
  one_order lists (x ∷ a) [] lone h k = absurd (all_none lists h.0 x h.1 k h.2)
  one_order lists (x ∷ a) (y ∷ b) lone h k =
      let same : h.0 ≡ k.0 = lone h.0 k.0 x y h.1 k.1 h.2 k.2 in
      let there : ◌≡◌ {A = Option (List X)} (Some (x ∷ h.1)) (Some (y ∷ k.1)) = sym h.2 ∙ ap (slice_get lists) same ∙ k.2 in
      let list : x ∷ h.1 ≡ y ∷ k.1 = cc there in
      let first : x ≡ y = cc list in
      let rest : h.1 ≡ k.1 = cc list in
      let left : set lists k.0 k.1 ≡ set lists h.0 h.1 = λ i. set lists (sym same i) (sym rest i) in
      let later = one_order (set lists h.0 h.1) a b (lone_rest lists h.0 x h.1 h.2 lone) h.3 (subst (λ (ls : List (List X)). IsInterleaving ls b) left k.3) in
      λ i. first i ∷ later i

-- ---- the groups of an ordered batch

module _ (base : StateView) (batch : Batch) where
  abbrev lists : ℕ → List (List Placed)
  lists group = map (steps_in batch true group) (runners base batch)

  -- a request that has a step in the group is of its place
  in_group : (group : ℕ) (r : Runner) (s : Placed) (ss : List Placed) → s ∷ ss ≡ steps_in batch true group r → r.0 ≡ group
  in_group group r s ss e = by (r.0 == group) refl e
    where
      by : (b : Bool) → (r.0 == group) ≡ b → s ∷ ss ≡ (if b then map (λ step. (r.0, step)) (steps r.1.command) else []) → r.0 ≡ group
      by true t e = eqb-true r.0 group t
      by false t e = absurd (cc e)

  lone : (group : ℕ) → IsLone (lists group)
  lone group i j x y xs ys a b =
      let r = get_map (steps_in batch true group) (runners base batch) i (x ∷ xs) a in
      let t = get_map (steps_in batch true group) (runners base batch) j (y ∷ ys) b in
      fresh_apart base.sessions [] batch.requests i j r.0 t.0 r.1 t.1 (in_group group r.0 x xs r.2 ∙ sym (in_group group t.0 y ys t.2))

  abbrev placed_steps : Runner → List Placed
  placed_steps r = map (λ step. (r.0, step)) (steps r.1.command)

  -- after the last request there is none
  none_in : (group : ℕ) → Each (λ (r : Runner). r.0 < group) (runners base batch) → IsInterleaving (lists group) []
  none_in group low = all_empty (steps_in batch true group) (runners base batch) (λ i r at. by r (low i r at) (r.0 == group) refl)
    where
      by : (r : Runner) → r.0 < group → (b : Bool) → (r.0 == group) ≡ b → (if b then placed_steps r else []) ≡ []
      by r l true t = absurd (let e = eqb-true r.0 group t in omega (arith, e, l))
      by r l false t = refl

  abbrev goes : Items → List ℕ → Items → List (ℕ × Answer) → Type 0
  goes m groups now answers = GroupsRun lists (first_place base batch) m groups now answers

  -- groups after the last request change nothing
  none_left : (from n : ℕ) (m now : Items) (answers : List (ℕ × Answer)) → Each (λ (r : Runner). r.0 < from) (runners base batch) → goes m (range_with_len from n) now answers
      → (now ≡ m) × (answers ≡ [])
  none_left from zero m now answers low a = (a.0, a.1)
  none_left from (suc n) m now answers low a =
      let order : a.0 ≡ [] = one_order (lists from) a.0 [] (lone from) a.2 (none_in from low) in
      let later = none_left (from + 1) n (items_after (first_place base batch) m a.0) now a.1 (λ i r at. let l = low i r at in omega (arith, l)) a.3 in
      (later.0 ∙ ap (items_after (first_place base batch) m) order, a.4 ∙ (λ i. answers_in (first_place base batch) m (order i) ++ later.1 i))

  ordered_same : (from n k : ℕ) (m h new now : Items) (seen also : List (ℕ × Answer)) → m ≡ h
      → Each (λ (r : Runner). r.0 < from + n) (runners base batch) → Each (λ (r : Runner). r.0 < from + k) (runners base batch)
      → goes m (range_with_len from n) new seen → goes h (range_with_len from k) now also → (new ≡ now) × (seen ≡ also)
  ordered_same from zero k m h new now seen also e low high a b =
      let rest = none_left from k h now also (λ i r at. let l = low i r at in omega (arith, l)) b in
      (a.0 ∙ e ∙ sym rest.0, a.1 ∙ sym rest.1)
  ordered_same from (suc n) zero m h new now seen also e low high a b =
      let rest = none_left from (suc n) m new seen (λ i r at. let l = high i r at in omega (arith, l)) a in
      (rest.0 ∙ e ∙ sym b.0, rest.1 ∙ sym b.1)
  ordered_same from (suc n) (suc k) m h new now seen also e low high a b =
      let first = first_place base batch in
      let order : a.0 ≡ b.0 = one_order (lists from) a.0 b.0 (lone from) a.2 b.2 in
      let items : items_after first m a.0 ≡ items_after first h b.0 = λ i. items_after first (e i) (order i) in
      let later = ordered_same (from + 1) n k (items_after first m a.0) (items_after first h b.0) new now a.1 b.1 items
      (λ i r at. let l = low i r at in omega (arith, l)) (λ i r at. let l = high i r at in omega (arith, l)) a.3 b.3 in
      (later.0, a.4 ∙ (λ i. answers_in first (e i) (order i) ++ later.1 i) ∙ sym b.4)

  below : (n : ℕ) → All (λ (r : Runner). r.0 < n) (runners base batch) → Each (λ (r : Runner). r.0 < 0 + n) (runners base batch)
  below n all i r at = let l = each-of-all (λ (r : Runner). r.0 < n) (runners base batch) all i r at in omega (arith, l)

  pub ordered_once : (new now : StateView) (replies also : List Answered) → Round base batch true new replies → Round base batch true now also → (new ≡ now) × (replies ≡ also)
  ordered_once new now replies also a b =
      let start = alive base.items (moment_of base batch) in
      let both = ordered_same 0 a.groups b.groups start start new.items now.items a.answers b.answers refl (below a.groups a.all_run) (below b.groups b.all_run) a.run b.run in
      rest_same base batch true new now replies also a b both.0 both.1
