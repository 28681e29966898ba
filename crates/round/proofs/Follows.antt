-- One step more in a seat's log.
use Rattle.std.proofs.Common.{◌≡◌, ◌≢◌, ℕ, zero, suc, ◌+◌, cond, List, [], ◌∷◌, ◌++◌, map, length, take, set, Some, None, refl, sym, ap, ◌∙◌, ⊎_elim, arith, subst, eq-eqb, ne_eqb, append-nil, length-append}
use Rattle.std.specs.Prelude.{slice_get, ◌==◌}
use Rattle.std.proofs.lemmas.List.{map-append, length-map}
use Rattle.std.proofs.lemmas.List.Elements.{filter-append}
use mathlib.Core.Logic.{dite}
use native.Mathlib.Decide.{ℕ_discrete}
use Rattle.item_steps.specs.declared.group.Task.{Task}
use Rattle.round.specs.declared.rule.Entry.{Entry}
use Rattle.round.specs.Sittings.{Running, log_at, steps_at, answered_at, running_in, next_of, Follows}
use Rattle.round.proofs.Lists.{same_element, get_push}
use Rattle.round.proofs.Interleaves.{Apart}

pub follows_none : (tasks : List Task) → Follows tasks []
follows_none tasks = record { first = λ i t at. refl; no_others = λ i e at. absurd (let no : None ≡ Some e = at in cc) }

pub tasks_of_running : (log : List Entry) (tasks : List Task) → map (λ (r : Running). r.task) (map (running_in log) tasks) ≡ tasks
tasks_of_running log [] = refl
tasks_of_running log (t ∷ ts) = ap (λ l. t ∷ l) (tasks_of_running log ts)

pub take_next : {X : Type 0} (l : List X) (n : ℕ) (x : X) → slice_get l n ≡ Some x → take n l ++ x ∷ [] ≡ take (n + 1) l
take_next {X} [] n x at = absurd (let no : None ≡ Some x = at in cc)
take_next {X} (y ∷ ys) zero x at = ap (λ z. z ∷ []) (sym (same_element y x at))
take_next {X} (y ∷ ys) (suc n) x at = let more : suc (n + 1) ≡ suc n + 1 = omega arith in ap (λ l. y ∷ l) (take_next ys n x at) ∙ ap (λ m. take m (y ∷ ys)) more

-- a list of which one place is written, by what it should have at each
pub set_by : {X Y : Type 0} (f g : X → Y) (l : List X) (j : ℕ) (y : Y) → ((i : ℕ) (x : X) → slice_get l i ≡ Some x → i ≢ j → f x ≡ g x) → ((x : X) → slice_get l j ≡ Some x → y ≡ g x) → set (map f l) j y ≡ map g l
set_by f g [] j y others here = refl
set_by f g (x ∷ xs) zero y others here =
    (λ k. here x refl k ∷ rest k)
  where
    rest : map f xs ≡ map g xs
    rest = same xs (λ i u at. others (suc i) u at (λ h. omega arith))
      where
        same : (l : List _) → ((i : ℕ) (u : _) → slice_get l i ≡ Some u → f u ≡ g u) → map f l ≡ map g l
        same [] h = refl
        same (u ∷ us) h = λ k. h 0 u refl k ∷ same us (λ i v at. h (suc i) v at) k
set_by f g (x ∷ xs) (suc j) y others here = λ k. others 0 x refl (λ h. omega arith) k ∷ set_by f g xs j y (λ i u at off. others (suc i) u at (λ h. off (omega arith))) here k

module _ (tasks : List Task) (apart : Apart tasks) (log : List Entry) (e : Entry) (index : ℕ) (task : Task) (there : slice_get tasks index ≡ Some task) (its : e.place ≡ task.place) where
  log_more : log_at task.place (log ++ e ∷ []) ≡ log_at task.place log ++ e ∷ []
  log_more = filter-append (λ (x : Entry). x.place == task.place) log (e ∷ []) ∙ ap (λ b. log_at task.place log ++ cond b (e ∷ []) []) (eq-eqb e.place task.place its)

  log_same : (i : ℕ) (t : Task) → slice_get tasks i ≡ Some t → i ≢ index → log_at t.place (log ++ e ∷ []) ≡ log_at t.place log
  log_same i t at off =
      filter-append (λ (x : Entry). x.place == t.place) log (e ∷ [])
      ∙ ap (λ b. log_at t.place log ++ cond b (e ∷ []) []) (ne_eqb e.place t.place (λ same. off (apart i index t task at there (sym same ∙ its)))) ∙ append-nil _

  pub follows_push : next_of (running_in log task) ≡ Some e.step → Follows tasks log → Follows tasks (log ++ e ∷ [])
  follows_push next f = record {
    first = λ i t at. dite (ℕ_discrete i index)
        (λ is.
        let same : t ≡ task = same_element t task (sym at ∙ ap (slice_get tasks) is ∙ there) in
        subst (λ (u : Task). steps_at u.place (log ++ e ∷ []) ≡ take (length (log_at u.place (log ++ e ∷ []))) u.steps) (sym same) mine)
        (λ off. ap (λ l. map (λ (x : Entry). x.step) l) (log_same i t at off) ∙ f.first i t at ∙ ap (λ l. take (length l) t.steps) (sym (log_same i t at off)));
    no_others = λ i x at. ⊎_elim
        (λ (was : slice_get log i ≡ Some x). f.no_others i x was)
        (λ (is : e ≡ x). (index, task, there, sym its ∙ ap (λ (y : Entry). y.place) is))
        (get_push log e i x at);
  }
    where
      mine : steps_at task.place (log ++ e ∷ []) ≡ take (length (log_at task.place (log ++ e ∷ []))) task.steps
      mine =
          let l = log_at task.place log in
          let n : length (answered_at task.place log) ≡ length l = length-map l (λ (x : Entry). x.answer) in
          let at : slice_get task.steps (length l) ≡ Some e.step = ap (slice_get task.steps) (sym n) ∙ next in
          let more : length (l ++ e ∷ []) ≡ length l + 1 = length-append l (e ∷ []) in
          ap (λ m. map (λ (x : Entry). x.step) m) log_more ∙ map-append (λ (x : Entry). x.step) l (e ∷ []) ∙ ap (λ m. m ++ e.step ∷ []) (f.first index task there)
          ∙ take_next task.steps (length l) e.step at ∙ ap (λ m. take m task.steps) (sym more ∙ ap length (sym log_more))

  pub running_push : (after : Running) → after ≡ record { task = task; answers = answered_at task.place log ++ e.answer ∷ [] } → set (map (running_in log) tasks) index after ≡ map (running_in (log ++ e ∷ [])) tasks
  running_push after is = set_by (running_in log) (running_in (log ++ e ∷ [])) tasks index after
      (λ i t at off. ap (λ l. record { task = t; answers = map (λ (x : Entry). x.answer) l }) (sym (log_same i t at off)))
      (λ t at.
      let same : task ≡ t = same_element task t (sym there ∙ at) in
      is ∙ subst (λ (u : Task). record { task = task; answers = answered_at task.place log ++ e.answer ∷ [] } ≡ running_in (log ++ e ∷ []) u) same
      (ap (λ l. record { task = task; answers = l }) (sym (map-append (λ (x : Entry). x.answer) (log_at task.place log) (e ∷ [])) ∙ ap (λ m. map (λ (x : Entry). x.answer) m) (sym log_more))))
