-- Seats that stay in their order have the callers that they had, and pages of which each was refreshed are all refreshed.
use Rattle.std.proofs.Common.{◌≡◌, ℕ, suc, List, [], ◌∷◌, map, length, refl, ap, arith}
use Rattle.item_steps.specs.declared.group.Task.{Task}
use Rattle.pages.specs.Page.{PageState, refreshed}
use Rattle.round.specs.Sittings.{Sitting, seat_of}
use Rattle.workers.specs.InOrder.{StayInOrder, AreRefreshed}

pub callers_of : (callers : ℕ) (group : List Task) (ns : List ℕ) → map (λ (s : Sitting). s.caller) (map (seat_of callers group) ns) ≡ ns
callers_of callers group [] = refl
callers_of callers group (n ∷ ns) = ap (λ l. n ∷ l) (callers_of callers group ns)

pub same_callers : (old new : List Sitting) → length new ≡ length old → StayInOrder old new → map (λ (s : Sitting). s.caller) new ≡ map (λ (s : Sitting). s.caller) old
same_callers [] [] len stay = refl
same_callers [] (t ∷ ts) len stay = absurd (omega arith)
same_callers (s ∷ ss) [] len stay = absurd (omega arith)
same_callers (s ∷ ss) (t ∷ ts) len stay = λ k. stay 0 s (omega arith) k ∷ same_callers ss ts (omega arith) (λ i d lt. stay (suc i) d (omega arith)) k

pub all_refreshed : (old new : List PageState) → length new ≡ length old → AreRefreshed old new → new ≡ map refreshed old
all_refreshed [] [] len each = refl
all_refreshed [] (y ∷ ys) len each = absurd (omega arith)
all_refreshed (x ∷ xs) [] len each = absurd (omega arith)
all_refreshed (x ∷ xs) (y ∷ ys) len each = λ k. each 0 x (omega arith) k ∷ all_refreshed xs ys (omega arith) (λ i d lt. each (suc i) d (omega arith)) k
