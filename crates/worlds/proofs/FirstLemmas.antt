-- The first world: what a replica is after it was opened for the first time, and that to open them all leads there.
use Rattle.std.proofs.Common.{◌≡◌, ℕ, zero, suc, ◌+◌, List, [], ◌∷◌, ◌++◌, length, Option, Some, refl, sym, ap, ◌∙◌, subst, inl, inr, slice_get, slice_set, replicate, append_assoc}
use Rattle.std.proofs.lemmas.List.{append-nil, length-append}
use Rattle.std.proofs.Math.Nat.{add-zero, zero-add, add-suc, suc-add}
use Rattle.std.proofs.Math.Numerals.{add-one}
use Rattle.decrees.specs.Count.{member_count}
use Rattle.decrees.specs.declared.ballot.Ballot.{Ballot}
use Rattle.decrees.specs.declared.node.Letter.{Letter}
use Rattle.exec_lines.specs.declared.body.Body.{Body}
use Rattle.exec_lines.specs.declared.shown.Report.{Report}
use Rattle.exec_node.specs.Executor.{ExecutorView}
use Rattle.verifier.specs.Verifier.{VerifierView}
use Rattle.events.specs.declared.event.Event.TheVariants.{Restart}
use Rattle.events.specs.declared.event.Replica.{Replica}
use Rattle.events.specs.declared.event.Replica.TheVariants.{Executor, Verifier}
use Rattle.events.specs.Config.{ConfigView}
use Rattle.slots.specs.Slot.{Slot}
use Rattle.slots.specs.declared.slot.Slot.TheVariants.{Up, Down}
use Rattle.slots.specs.declared.status.VerifierReport.{VerifierReport}
use Rattle.slots.specs.declared.status.Status.TheVariants as status
use Rattle.slots.specs.Status.{status_of, executor_report, verifier_report}
use Rattle.slots.specs.Slots.{ExecutorReopens, VerifierReopens, nothing_kept}
use Rattle.worlds.specs.World.{WorldView, WorldNext, ExecutorAtOpened, VerifierAtOpened, unopened_world, restarts_below, IsFirstWorld, IsReached}
use Rattle.worlds.specs.First.{first_executor, first_verifier, all_up, first_world}
use Rattle.worlds.proofs.LeadLemmas.{LeadsTo, leads_nowhere, leads_on, leads_append}

-- ---- one replica

pub executor_is_first : (u id : ℕ) (now : Slot ExecutorView) (sent : List (Letter Body)) (report : Report) → ExecutorReopens u id (Down nothing_kept) now sent → status_of executor_report now ≡ status.Up report → now ≡ Up (first_executor u id)
executor_is_first u id now sent report (inl up) is = up.1.1 ∙ ap Up up.1.2.0
executor_is_first u id now sent report (inr down) is = absurd (cc (sym (ap (status_of executor_report) down.1) ∙ is))

pub verifier_is_first : (u id : ℕ) (now : Slot VerifierView) (sent : List (Letter Ballot)) (report : VerifierReport) → VerifierReopens u id (Down nothing_kept) now sent → status_of verifier_report now ≡ status.Up report → now ≡ Up (first_verifier u id)
verifier_is_first u id now sent report (inl up) is = up.1.1 ∙ ap Up up.1.2.0
verifier_is_first u id now sent report (inr down) is = absurd (cc (sym (ap (status_of verifier_report) down.1) ∙ is))

-- ---- all of them

module _ {X : Type 0} where
  pub get_seam : (xs : List X) (x : X) (ys : List X) → slice_get (xs ++ x ∷ ys) (length xs) ≡ Some x
  get_seam [] x ys = refl
  get_seam (z ∷ xs) x ys = get_seam xs x ys

  pub set_seam : (xs : List X) (x : X) (ys : List X) (y : X) → slice_set (xs ++ x ∷ ys) (length xs) y ≡ xs ++ y ∷ ys
  set_seam [] x ys y = refl
  set_seam (z ∷ xs) x ys y = ap (λ (zs : List X). z ∷ zs) (set_seam xs x ys y)

pub length_all_up : {N : Type 0} (node : ℕ → N) (n : ℕ) → length (all_up node n) ≡ n
length_all_up node zero = refl
length_all_up node (suc n) = length-append (all_up node n) (Up (node n) ∷ []) ∙ (ap (λ (k : ℕ). k + 1) (length_all_up node n) ∙ add-one n)

-- the replicas of one kind, of which the next one is opened in each step
module _ {N : Type 0} (replica : ℕ → Replica) (node : ℕ → N) (make : List (Slot N) → WorldView)
    (opens : (xs ys : List (Slot N)) → WorldNext (make (xs ++ Down nothing_kept ∷ ys)) (Restart (replica (length xs))) (make (xs ++ Up (node (length xs)) ∷ ys))) where
  abbrev down : ℕ → List (Slot N)
  down n = replicate n (Down nothing_kept)

  opens_at : (n : ℕ) (ys : List (Slot N)) → WorldNext (make (all_up node n ++ Down nothing_kept ∷ ys)) (Restart (replica n)) (make (all_up node (suc n) ++ ys))
  opens_at n ys =
      subst (λ (zs : List (Slot N)). WorldNext (make (all_up node n ++ Down nothing_kept ∷ ys)) (Restart (replica n)) (make zs)) (sym (append_assoc (all_up node n) (Up (node n) ∷ []) ys))
      (subst (λ (k : ℕ). WorldNext (make (all_up node n ++ Down nothing_kept ∷ ys)) (Restart (replica k)) (make (all_up node n ++ Up (node k) ∷ ys))) (length_all_up node n)
      (opens (all_up node n) ys))

  opened_below : (n k m : ℕ) → m ≡ n + k → LeadsTo (make (down m)) (restarts_below replica n) (make (all_up node n ++ down k))
  opened_below zero k m is = subst (λ (j : ℕ). LeadsTo (make (down j)) [] (make (down k))) (sym (is ∙ zero-add k)) (leads_nowhere (make (down k)))
  opened_below (suc n) k m is =
      leads_on (make (down m)) (make (all_up node n ++ down (suc k))) (make (all_up node (suc n) ++ down k)) (restarts_below replica n) (Restart (replica n))
      (opened_below n (suc k) m (is ∙ (suc-add n k ∙ sym (add-suc n k)))) (opens_at n (down k))

  all_opened : (n : ℕ) → LeadsTo (make (down n)) (restarts_below replica n) (make (all_up node n))
  all_opened n = subst (λ (zs : List (Slot N)). LeadsTo (make (down n)) (restarts_below replica n) (make zs)) (append-nil (all_up node n)) (opened_below n 0 n (sym (add-zero n)))

-- executors are opened first
abbrev of_executors : ConfigView → List (Slot ExecutorView) → WorldView
of_executors c executors = record (unopened_world c) { executors = executors }

abbrev of_verifiers : ConfigView → List (Slot VerifierView) → WorldView
of_verifiers c verifiers = record (first_world c) { verifiers = verifiers }

executor_opens : (c : ConfigView) (xs ys : List (Slot ExecutorView)) → WorldNext (of_executors c (xs ++ Down nothing_kept ∷ ys)) (Restart (Executor (length xs))) (of_executors c (xs ++ Up (first_executor c.u (length xs)) ∷ ys))
executor_opens c xs ys =
    let new = Up (first_executor c.u (length xs)) in
    subst (λ (slot : Option (Slot ExecutorView)). ExecutorAtOpened (of_executors c (xs ++ Down nothing_kept ∷ ys)) (length xs) slot (of_executors c (xs ++ new ∷ ys))) (sym (get_seam xs (Down nothing_kept) ys))
    (new, [], inl (refl, (first_executor c.u (length xs), refl, (refl, refl))), ap (of_executors c) (sym (set_seam xs (Down nothing_kept) ys new)))

verifier_opens : (c : ConfigView) (xs ys : List (Slot VerifierView)) → WorldNext (of_verifiers c (xs ++ Down nothing_kept ∷ ys)) (Restart (Verifier (length xs))) (of_verifiers c (xs ++ Up (first_verifier c.u (length xs)) ∷ ys))
verifier_opens c xs ys =
    let new = Up (first_verifier c.u (length xs)) in
    subst (λ (slot : Option (Slot VerifierView)). VerifierAtOpened (of_verifiers c (xs ++ Down nothing_kept ∷ ys)) (length xs) slot (of_verifiers c (xs ++ new ∷ ys))) (sym (get_seam xs (Down nothing_kept) ys))
    (new, [], inl (refl, (first_verifier c.u (length xs), refl, (refl, refl))), ap (of_verifiers c) (sym (set_seam xs (Down nothing_kept) ys new)))

-- to open all replicas leads to the first world
pub opening_leads : (c : ConfigView) → IsFirstWorld c (first_world c)
opening_leads c =
    leads_append (unopened_world c) (of_executors c (all_up (first_executor c.u) (member_count c.u))) (first_world c) (restarts_below Executor (member_count c.u)) (restarts_below Verifier (member_count c.u))
    (all_opened Executor (first_executor c.u) (of_executors c) (executor_opens c) (member_count c.u))
    (all_opened Verifier (first_verifier c.u) (of_verifiers c) (verifier_opens c) (member_count c.u))

-- the first world is reached by no event
pub reached_first : (config : ConfigView) (w : WorldView) → w ≡ first_world config → IsReached config [] w
reached_first config w is = record { worlds = w ∷ []; reached = (subst (IsFirstWorld config) (sym is) (opening_leads config), tt); ends = refl }
