-- What was dealt in turn is taken back from its end.
use Rattle.std.proofs.Common.{◌≡◌, ◌≢◌, ℕ, zero, suc, ◌+◌, ◌%◌, ◌<◌, ◌≤◌, true, false, cond, List, [], ◌∷◌, ◌++◌, map, reverse, length, take, drop, set, Some, None, refl, sym, ap, ◌∙◌, arith, subst, eq-eqb, ne_eqb}
use Rattle.std.specs.Prelude.{slice_get, ◌==◌}
use Rattle.std.specs.List.{range_with_len}
use Rattle.std.proofs.lemmas.List.{length-map, map-append, length-append, length-take-le, take_all, reverse-append}
use Rattle.std.proofs.lemmas.List.FromFn.{length-range_with_len}
use Rattle.item_steps.specs.declared.group.Task.{Task}
use Rattle.round.specs.declared.rule.Entry.{Entry}
use Rattle.round.specs.Sittings.{Running, running_in, dealt}
use Rattle.std.proofs.lemmas.List.{same_from_push}
use Rattle.round.proofs.Lists.{same_element, map_at}
use Rattle.round.proofs.Follows.{set_by, take_next}
use Rattle.round.proofs.Dealt.{dealt_push, range_at}

-- the lists of each caller's requests, each as f has it
abbrev pub lists_by : (Task → Running) → ℕ → List Task → List (List Running)
lists_by f callers group = map (λ caller. map f (dealt callers caller group)) (range_with_len 0 callers)

pub length-lists_by : (f : Task → Running) (callers : ℕ) (group : List Task) → length (lists_by f callers group) ≡ callers
length-lists_by f callers group = length-map (range_with_len 0 callers) _ ∙ length-range_with_len 0 callers

there_is : {X : Type 0} (l : List X) (n : ℕ) → n < length l → (x : X) × (slice_get l n ≡ Some x)
there_is [] n lt = absurd (omega arith)
there_is (x ∷ xs) zero lt = (x, refl)
there_is (x ∷ xs) (suc n) lt = there_is xs n (omega arith)

drop_at : {X : Type 0} (l : List X) (n : ℕ) (x : X) → slice_get l n ≡ Some x → drop n l ≡ x ∷ drop (n + 1) l
drop_at {X} [] n x at = absurd (let no : None ≡ Some x = at in cc)
drop_at {X} (y ∷ ys) zero x at = ap (λ z. z ∷ ys) (same_element y x at)
drop_at {X} (y ∷ ys) (suc n) x at = let more : suc (n + 1) ≡ suc n + 1 = omega arith in drop_at ys n x at ∙ ap (λ l. x ∷ l) (ap (λ m. drop m (y ∷ ys)) more)

module _ (f : Task → Running) (callers : ℕ) (group : List Task) (n : ℕ) (small : n < length group) where
  -- the request at position n
  pub last : (t : Task) × (slice_get group n ≡ Some t)
  last = there_is group n small

  longer : take (n + 1) group ≡ take n group ++ last.0 ∷ []
  longer = sym (take_next group n last.0 last.1)

  front_long : length (take n group) ≡ n
  front_long = length-take-le n group (omega arith)

  others : (c : ℕ) → c ≢ n % callers → map f (dealt callers c (take (n + 1) group)) ≡ map f (dealt callers c (take n group))
  others c off =
      let same : 0 + length (take n group) ≡ n = let wide = front_long in omega arith in
      let no : ((0 + length (take n group)) % callers == c) ≡ false = ne_eqb ((0 + length (take n group)) % callers) c (λ is. off (sym is ∙ ap (λ k. k % callers) same)) in
      ap (λ (l : List Task). map f (dealt callers c l)) longer
      ∙ ap (λ (l : List Task). map f l) (dealt_push callers c 0 (take n group) last.0 ∙ ap (λ b. cond b (dealt callers c (take n group) ++ last.0 ∷ []) (dealt callers c (take n group))) no)

  mine : (c : ℕ) → c ≡ n % callers → map f (dealt callers c (take (n + 1) group)) ≡ map f (dealt callers c (take n group)) ++ f last.0 ∷ []
  mine c is =
      let same : 0 + length (take n group) ≡ n = let wide = front_long in omega arith in
      let yes : ((0 + length (take n group)) % callers == c) ≡ true = eq-eqb ((0 + length (take n group)) % callers) c (ap (λ k. k % callers) same ∙ sym is) in
      ap (λ (l : List Task). map f (dealt callers c l)) longer
      ∙ ap (λ (l : List Task). map f l) (dealt_push callers c 0 (take n group) last.0 ∙ ap (λ b. cond b (dealt callers c (take n group) ++ last.0 ∷ []) (dealt callers c (take n group))) yes)
      ∙ map-append f (dealt callers c (take n group)) (last.0 ∷ [])

  -- the caller whose turn it was has a request left
  pub is_left : (lists : List (List Running)) → lists ≡ lists_by f callers (take (n + 1) group) → n % callers < callers → (list : List Running) → slice_get lists (n % callers) ≡ Some list → length list ≡ 0 → ⊥
  is_left lists are low list there empty =
      let x = there_is (range_with_len 0 callers) (n % callers) (subst (λ k. n % callers < k) (sym (length-range_with_len 0 callers)) low) in
      let zer : 0 + n % callers ≡ n % callers = omega arith in
      let is : x.0 ≡ n % callers = range_at callers 0 (n % callers) x.0 x.1 ∙ zer in
      let whole = map_at (λ caller. map f (dealt callers caller (take (n + 1) group))) (range_with_len 0 callers) (n % callers) x.0 x.1 in
      let same = same_element list (map f (dealt callers x.0 (take (n + 1) group))) (sym there ∙ ap (λ (l : List (List Running)). slice_get l (n % callers)) are ∙ whole) ∙ mine x.0 is in
      let long = ap length same in
      omega (arith, length-append (map f (dealt callers x.0 (take n group))) (f last.0 ∷ []))

  module _ (lists : List (List Running)) (rest : List Running) (r : Running) (are : lists ≡ lists_by f callers (take (n + 1) group)) (there : slice_get lists (n % callers) ≡ Some (rest ++ r ∷ [])) where
    parts : (x : ℕ) → slice_get (range_with_len 0 callers) (n % callers) ≡ Some x → (rest ≡ map f (dealt callers x (take n group))) × (r ≡ f last.0)
    parts x at =
        let zer : 0 + n % callers ≡ n % callers = omega arith in
        let is : x ≡ n % callers = range_at callers 0 (n % callers) x at ∙ zer in
        let whole = map_at (λ caller. map f (dealt callers caller (take (n + 1) group))) (range_with_len 0 callers) (n % callers) x at in
        let same = same_element (rest ++ r ∷ []) (map f (dealt callers x (take (n + 1) group))) (sym there ∙ ap (λ (l : List (List Running)). slice_get l (n % callers)) are ∙ whole) in
        same_from_push rest (map f (dealt callers x (take n group))) r (f last.0) (same ∙ mine x is)

    pub taken_back : set lists (n % callers) rest ≡ lists_by f callers (take n group)
    taken_back =
        ap (λ (l : List (List Running)). set l (n % callers) rest) are
        ∙ set_by (λ caller. map f (dealt callers caller (take (n + 1) group))) (λ caller. map f (dealt callers caller (take n group))) (range_with_len 0 callers) (n % callers) rest
        (λ i x at off. let zer : 0 + i ≡ i = omega arith in others x (λ is. off (sym zer ∙ sym (range_at callers 0 i x at) ∙ is)))
        (λ x at. (parts x at).0)

    -- what was taken is the request at position n
    pub taken_is : n % callers < callers → r ≡ f last.0
    taken_is low =
        let x = there_is (range_with_len 0 callers) (n % callers) (subst (λ k. n % callers < k) (sym (length-range_with_len 0 callers)) low) in
        (parts x.0 x.1).1

    pub collected : (ran : List Running) → n % callers < callers → reverse ran ≡ map f (drop (n + 1) group) → reverse (ran ++ r ∷ []) ≡ map f (drop n group)
    collected ran low so_far =
        reverse-append ran (r ∷ []) ∙ (λ k. taken_is low k ∷ so_far k)
        ∙ sym (ap (λ (l : List Task). map f l) (drop_at group n last.0 last.1))

-- how far the lists were taken back, and what was taken
pub record Taken (lists before : List (List Running)) (callers n requests : ℕ) (ran : List Running) : Type 0 where
  pub all : (f : Task → Running) (group : List Task) → length group ≡ requests → before ≡ lists_by f callers group
      → (lists ≡ lists_by f callers (take n group)) × (reverse ran ≡ map f (drop n group))

pub none_taken : (lists : List (List Running)) (callers n : ℕ) → Taken lists lists callers n n []
none_taken lists callers n = record { all = λ f group len are. (are ∙ ap (lists_by f callers) (sym (take_all n group (omega arith))), sym (ap (λ (l : List Task). map f l) (drop_all n group (omega arith)))) }
  where
    drop_all : (n : ℕ) (l : List Task) → length l ≤ n → drop n l ≡ []
    drop_all zero [] le = refl
    drop_all zero (x ∷ xs) le = absurd (omega arith)
    drop_all (suc n) [] le = refl
    drop_all (suc n) (x ∷ xs) le = drop_all n xs (omega arith)

pub one_taken : (lists before : List (List Running)) (callers n requests : ℕ) (ran : List Running) (rest : List Running) (r : Running) → 0 < callers → n < requests
    → n % callers < callers → slice_get lists (n % callers) ≡ Some (rest ++ r ∷ [])
    → Taken lists before callers (n + 1) requests ran → Taken (set lists (n % callers) rest) before callers n requests (ran ++ r ∷ [])
one_taken lists before callers n requests ran rest r some small low there t = record {
  all = λ f group len are.
      let was = t.all f group len are in
      let within : n < length group = omega arith in (
        taken_back f callers group n within lists rest r was.0 there,
        collected f callers group n within lists rest r was.0 there ran low was.1,
      );
}

-- if some are left, so is one of the caller whose turn it was
pub one_left : (lists before : List (List Running)) (callers n requests : ℕ) (ran : List Running) → n < requests → n % callers < callers → Taken lists before callers (n + 1) requests ran
    → (f : Task → Running) (group : List Task) → length group ≡ requests → before ≡ lists_by f callers group
    → (list : List Running) → slice_get lists (n % callers) ≡ Some list → length list ≡ 0 → ⊥
one_left lists before callers n requests ran small low t f group len are =
    is_left f callers group n (omega arith) lists (t.all f group len are).0 low

pub all_taken : (lists before : List (List Running)) (callers requests : ℕ) (ran : List Running) → Taken lists before callers 0 requests ran
    → (f : Task → Running) (group : List Task) → length group ≡ requests → before ≡ lists_by f callers group → reverse ran ≡ map f group
all_taken lists before callers requests ran t f group len are = (t.all f group len are).1

pub answers_of : (f : Task → Running) (group : List Task) → map (λ (r : Running). r.answers) (map f group) ≡ map (λ task. (f task).answers) group
answers_of f [] = refl
answers_of f (t ∷ ts) = ap (λ l. (f t).answers ∷ l) (answers_of f ts)

-- the requests themselves come back
pub tasks_of : (order : List Entry) (group : List Task) → map (λ (r : Running). r.task) (map (running_in order) group) ≡ group
tasks_of order [] = refl
tasks_of order (t ∷ ts) = ap (λ l. t ∷ l) (tasks_of order ts)
