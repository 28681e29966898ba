-- The places that the groups name: each place of the batch once.
use Rattle.std.proofs.Common.{◌≡◌, ℕ, zero, suc, ◌+◌, ◌<◌, ◌≤◌, true, false, cond, List, [], ◌∷◌, ◌++◌, length, map, max, nat_eq, refl, sym, ap, subst, ◌∙◌, arith}
use Rattle.std.specs.Prelude.{fold}
use Rattle.std.specs.List.{zip, range_with_len, AllByRecursion}
use Rattle.std.specs.List.Sorted.{IsPermutation}
use Rattle.std.proofs.lemmas.List.Sorted.{IsPermutation-refl, IsPermutation-sym, IsPermutation-trans, IsPermutation-cons, IsPermutation-middle, IsPermutation-append_right}
use Rattle.std.proofs.lemmas.Bool.Decides.{nat_tests}
use Rattle.proto.specs.declared.command.Command.{Command}
use Rattle.sessions.specs.declared.request.Request.{Request}
use Rattle.item_steps.specs.declared.group.Task.{Task}
use Rattle.mixer.specs.Groups.{commands_of, number_after, numbers_from, numbers_of, tasks_from, members, group_count, groups_of, places_in}
use Rattle.mixer.proofs.GroupLemmas.{members-first, other_is, length-commands}

abbrev places : List Task → List ℕ
places tasks = map (λ t. t.place) tasks

-- the places that so many groups name, from this number on
abbrev places_from : List (ℕ × Task) → ℕ → ℕ → List ℕ
places_from ts a n = places_in (map (λ number. members number ts) (range_with_len a n))

none : (a n : ℕ) → places_from [] a n ≡ []
none a zero = refl
none a (suc n) = none (a + 1) n

-- a task of an earlier group is in none of these
past : (t : ℕ × Task) (ts : List (ℕ × Task)) (a n : ℕ) → t.0 < a → places_from (t ∷ ts) a n ≡ places_from ts a n
past t ts a zero h = refl
past t ts a (suc n) h =
    ap (λ group. places group ++ places_from (t ∷ ts) (a + 1) n) (members-first a t.0 t.1 ts ∙ ap (λ b. cond b (t.1 ∷ members a ts) (members a ts)) (other_is t.0 a (λ e. omega arith)))
    ∙ ap (λ xs. places (members a ts) ++ xs) (past t ts (a + 1) n (omega arith))

equal_of : (a b : ℕ) → nat_eq a b ≡ true → a ≡ b
equal_of a b h = grind (arith, nat_tests)

above_of : (a b : ℕ) → a ≤ b → nat_eq b a ≡ false → a + 1 ≤ b
above_of a b l h = grind (arith, nat_tests)

-- a task of one of these is in it once
once : (t : ℕ × Task) (ts : List (ℕ × Task)) (a n : ℕ) → a ≤ t.0 → t.0 < a + n → IsPermutation (t.1.place ∷ places_from ts a n) (places_from (t ∷ ts) a n)
once t ts a zero h g = absurd (omega arith)
once t ts a (suc n) h g =
    let here = places (members a ts) in
    let later = places_from ts (a + 1) n in
    let first : places_from (t ∷ ts) a (suc n) ≡ places (cond (nat_eq t.0 a) (t.1 ∷ members a ts) (members a ts)) ++ places_from (t ∷ ts) (a + 1) n =
    ap (λ group. places group ++ places_from (t ∷ ts) (a + 1) n) (members-first a t.0 t.1 ts) in
    elim (nat_eq t.0 a) as (λ b. nat_eq t.0 a ≡ b → IsPermutation (t.1.place ∷ (here ++ later)) (places_from (t ∷ ts) a (suc n))) [
      | true ↦ λ is.
          let same : places_from (t ∷ ts) a (suc n) ≡ t.1.place ∷ (here ++ later) =
          first
          ∙ ap (λ b. places (cond b (t.1 ∷ members a ts) (members a ts)) ++ places_from (t ∷ ts) (a + 1) n) is
          ∙ ap (λ xs. t.1.place ∷ (here ++ xs)) (past t ts (a + 1) n (let e = equal_of t.0 a is in omega arith)) in
          subst (λ ys. IsPermutation (t.1.place ∷ (here ++ later)) ys) (sym same) (IsPermutation-refl _)
      | false ↦ λ is.
          let same : places_from (t ∷ ts) a (suc n) ≡ here ++ places_from (t ∷ ts) (a + 1) n =
          first ∙ ap (λ b. places (cond b (t.1 ∷ members a ts) (members a ts)) ++ places_from (t ∷ ts) (a + 1) n) is in
          subst (λ ys. IsPermutation (t.1.place ∷ (here ++ later)) ys) (sym same) (
          IsPermutation-trans _ _ _
          (IsPermutation-sym _ _ (IsPermutation-middle here t.1.place later))
          (IsPermutation-append_right here _ _ (once t ts (a + 1) n (above_of a t.0 h is) (omega arith))))
    ] refl

-- the places of tasks whose groups are below the count
every : (ts : List (ℕ × Task)) (count : ℕ) → AllByRecursion (λ t. t.0 < count) ts → IsPermutation (map (λ t. t.1.place) ts) (places_from ts 0 count)
every [] count h = subst (λ ys. IsPermutation [] ys) (sym (none 0 count)) (IsPermutation-refl [])
every (t ∷ ts) count h = IsPermutation-trans _ _ _ (IsPermutation-cons t.1.place _ _ (every ts count h.1)) (let below = h.0 in once t ts 0 count (omega arith) (omega arith))

below-zip : (count : ℕ) (ns : List ℕ) (ts : List Task) → AllByRecursion (λ n. n < count) ns → AllByRecursion (λ t. t.0 < count) (zip ns ts)
below-zip count [] ts h = tt
below-zip count (n ∷ ns) [] h = tt
below-zip count (n ∷ ns) (t ∷ ts) h = (h.0, below-zip count ns ts h.1)

places-zip : (ns : List ℕ) (ts : List Task) → length ns ≡ length ts → map (λ t. t.1.place) (zip ns ts) ≡ places ts
places-zip [] [] h = refl
places-zip [] (t ∷ ts) h = absurd (omega arith)
places-zip (n ∷ ns) [] h = absurd (omega arith)
places-zip (n ∷ ns) (t ∷ ts) h = ap (λ xs. t.place ∷ xs) (places-zip ns ts (omega arith))

places-tasks : (a : ℕ) (rs : List Request) → places (tasks_from a rs) ≡ range_with_len a (length rs)
places-tasks a [] = refl
places-tasks a (r ∷ rs) = ap (λ xs. a ∷ xs) (places-tasks (a + 1) rs)

length-tasks : (a : ℕ) (rs : List Request) → length (tasks_from a rs) ≡ length rs
length-tasks a [] = refl
length-tasks a (r ∷ rs) = ap suc (length-tasks (a + 1) rs)

length-numbers : (earlier : List (Command × ℕ)) (cs : List Command) → length (numbers_from earlier cs) ≡ length cs
length-numbers earlier [] = refl
length-numbers earlier (c ∷ cs) = ap suc (length-numbers (earlier ++ (c, number_after earlier c) ∷ []) cs)

abbrev count_from : ℕ → List ℕ → ℕ
count_from m ns = fold (λ count number. max count (number + 1)) m ns

reached : (m : ℕ) (ns : List ℕ) → m ≤ count_from m ns
reached m [] = omega arith
reached m (n ∷ ns) = let more = reached (max m (n + 1)) ns in omega arith

below_count : (m : ℕ) (ns : List ℕ) → AllByRecursion (λ n. n < count_from m ns) ns
below_count m [] = tt
below_count m (n ∷ ns) = let more = reached (max m (n + 1)) ns in (omega arith, below_count (max m (n + 1)) ns)

pub each_place_once : (rs : List Request) → IsPermutation (range_with_len 0 (length rs)) (places_in (groups_of rs))
each_place_once rs =
    let ns = numbers_of rs in
    let ts = tasks_from 0 rs in
    let as_many : length ns ≡ length ts = length-numbers [] (commands_of rs) ∙ length-commands rs ∙ sym (length-tasks 0 rs) in
    subst (λ xs. IsPermutation xs (places_in (groups_of rs))) (places-zip ns ts as_many ∙ places-tasks 0 rs) (every (zip ns ts) (group_count ns) (below-zip (group_count ns) ns ts (below_count 0 ns)))
