-- Steps are taken from the requests of a group, and put back with their answers.
use Rattle.std.proofs.Common.{◌≡◌, ℕ, zero, suc, ◌+◌, ◌<◌, Bool, true, false, List, [], ◌∷◌, ◌++◌, map, length, take, drop, get_or, set, refl, sym, ap, ◌∙◌, arith, append_assoc}
use Rattle.std.specs.Prelude.{filter, ◌==◌, if◌then◌else◌}
use Rattle.std.proofs.lemmas.List.{drop_more, length-map}
use Rattle.item_steps.specs.declared.step.Answer.{Answer}
use Rattle.item_steps.specs.declared.group.Task.{Task}
use Rattle.base.proofs.ListLemmas.{next-same, next-changed}
use Rattle.executor.specs.BatchRequest.{BatchRequest}
use Rattle.round.specs.Sittings.{Running as Ran}
use Rattle.executor.specs.GroupRun.{task_of_request, task_at, tasks_in, emptied, answered_by, ran_of}

-- the next of the requests is one of the group, or it is not
tasks_next : (group : ℕ) (xs : List BatchRequest) (i : ℕ) (d : BatchRequest) → i < length xs → tasks_in group (drop i xs) ≡ task_at group (get_or xs i d) ++ tasks_in group (drop (i + 1) xs)
tasks_next group xs i d l = ap (tasks_in group) (drop_more xs i d l) ∙ by ((get_or xs i d).group == group)
  where
    later : List BatchRequest
    later = filter (λ r. r.group == group) (drop (i + 1) xs)

    by : (b : Bool) → map task_of_request (if b then get_or xs i d ∷ later else later) ≡ (if b then task_of_request (get_or xs i d) ∷ [] else []) ++ map task_of_request later
    by true = refl
    by false = refl

-- ---- the steps are taken

-- the steps of the requests of the group among the first so many were taken
pub record TakenSoFar (group : ℕ) (before : List BatchRequest) (i : ℕ) (now : List BatchRequest) (taken : List Task) : Type 0 where
  pub running : now ≡ map (emptied group) (take i before) ++ drop i before
  pub tasks : taken ++ tasks_in group (drop i before) ≡ tasks_in group before

pub taken_next : (group : ℕ) (before : List BatchRequest) (i : ℕ) (now : List BatchRequest) (tasks more : List Task) (d request : BatchRequest) → TakenSoFar group before i now tasks → i < length before
    → request ≡ emptied group (get_or now i d) → more ≡ tasks ++ task_at group (get_or now i d) → TakenSoFar group before (i + 1) (set now i request) more
taken_next group before i now tasks more d request t l e f =
    let same : get_or now i d ≡ get_or before i d = ap (λ xs. get_or xs i d) t.running ∙ next-same (emptied group) before i d l in
    let later = tasks_in group (drop (i + 1) before) in
    record {
      running = (λ j. set (t.running j) i ((e ∙ ap (emptied group) same) j)) ∙ next-changed (emptied group) before i d l;
      tasks = (λ j. (f ∙ ap (λ r. tasks ++ task_at group r) same) j ++ later) ∙ append_assoc tasks (task_at group (get_or before i d)) later ∙ ap (λ ts. tasks ++ ts) (sym (tasks_next group before i d l)) ∙ t.tasks;
    }

-- ---- the steps are put back

module _ {X : Type 0} (f h : X → X) where
  -- of a list whose members are changed one after the other from one function's to another's, the next one
  next_at : (xs : List X) (i : ℕ) (d e : X) → i < length xs → get_or (map f (take i xs) ++ map h (drop i xs)) i d ≡ h (get_or xs i e)
  next_at [] i d e l = absurd (omega arith)
  next_at (x ∷ xs) zero d e l = refl
  next_at (x ∷ xs) (suc i) d e l = next_at xs i d e (omega arith)

  next_set : (xs : List X) (i : ℕ) (e : X) → i < length xs → set (map f (take i xs) ++ map h (drop i xs)) i (f (get_or xs i e)) ≡ map f (take (i + 1) xs) ++ map h (drop (i + 1) xs)
  next_set [] i e l = absurd (omega arith)
  next_set (x ∷ xs) zero e l = refl
  next_set (x ∷ xs) (suc i) e l =
      let more : suc i + 1 ≡ suc (i + 1) = omega arith in
      ap (λ ys. f x ∷ ys) (next_set xs i e (omega arith)) ∙ ap (λ n. map f (take n (x ∷ xs)) ++ map h (drop n (x ∷ xs))) (sym more)

-- the steps of the requests of the group among the first so many were put back
pub record PutSoFar (group : ℕ) (before : List BatchRequest) (answers_to : Task → List Answer) (i : ℕ) (now : List BatchRequest) (left : List Ran) : Type 0 where
  pub running : now ≡ map (answered_by group answers_to) (take i before) ++ map (emptied group) (drop i before)
  pub ran : left ≡ map (ran_of answers_to) (tasks_in group (drop i before))

pub put_next : (group : ℕ) (before : List BatchRequest) (answers_to : Task → List Answer) (i : ℕ) (now : List BatchRequest) (left after : List Ran) (d request : BatchRequest) → PutSoFar group before answers_to i now left
    → i < length now
    → ((x : BatchRequest) (to : Task → List Answer) (later : List Task) → get_or now i d ≡ emptied group x → left ≡ map (ran_of to) (task_at group x ++ later) → (request ≡ answered_by group to x) × (after ≡ map (ran_of to) later))
    → PutSoFar group before answers_to (i + 1) (set now i request) after
put_next group before answers_to i now left after d request p l step =
    let within : i < length before = omega (arith, l, ap length p.running, long before i) in
    let x = get_or before i d in
    let both = step x answers_to (tasks_in group (drop (i + 1) before)) (ap (λ xs. get_or xs i d) p.running ∙ next_at (answered_by group answers_to) (emptied group) before i d d within)
    (p.ran ∙ ap (map (ran_of answers_to)) (tasks_next group before i d within)) in
    record { running = (λ j. set (p.running j) i (both.0 j)) ∙ next_set (answered_by group answers_to) (emptied group) before i d within; ran = both.1 }
  where
    long : (xs : List BatchRequest) (k : ℕ) → length (map (answered_by group answers_to) (take k xs) ++ map (emptied group) (drop k xs)) ≡ length xs
    long [] zero = refl
    long [] (suc k) = refl
    long (y ∷ xs) zero = length-map (y ∷ xs) (emptied group)
    long (y ∷ xs) (suc k) = ap suc (long xs k)
