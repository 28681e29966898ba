-- No executor below a number has work.
use Rattle.std.proofs.Common.{ℕ, ◌+◌, ◌<◌, ◌≤◌, List, length, sym, subst, ⊎_elim, arith, slice_get}
use Rattle.std.proofs.lemmas.Bool.{cases_lt}
use Rattle.std.proofs.lemmas.Option.{slice_get_past}
use Rattle.exec_node.specs.Executor.{ExecutorView}
use Rattle.slots.specs.Slot.{Slot}
use Rattle.world.specs.Work.{HasNoWork}

abbrev pub NoWorkBelow : List (Slot ExecutorView) → ℕ → Type 0
NoWorkBelow executors n = (id : ℕ) → id < n → HasNoWork (slice_get executors id)

pub none_at_one_more : (executors : List (Slot ExecutorView)) (n : ℕ) → NoWorkBelow executors n → HasNoWork (slice_get executors n) → NoWorkBelow executors (n + 1)
none_at_one_more executors n below here id lt =
    ⊎_elim (λ (l : id < n). below id l)
    (λ (g : n ≤ id). subst (λ (i : ℕ). HasNoWork (slice_get executors i)) (omega (arith, lt, g)) here) (cases_lt id n)

pub none_at_all : (executors : List (Slot ExecutorView)) (n : ℕ) → length executors ≤ n → NoWorkBelow executors n → (id : ℕ) → HasNoWork (slice_get executors id)
none_at_all executors n all below id =
    ⊎_elim (λ (l : id < n). below id l)
    (λ (g : n ≤ id). subst HasNoWork (sym (slice_get_past executors id (omega (arith, all, g)))) tt) (cases_lt id n)
