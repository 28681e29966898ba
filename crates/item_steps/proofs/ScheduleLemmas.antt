-- Steps in an order.
use Rattle.std.proofs.Common.{◌≡◌, ◌+◌, List, [], ◌∷◌, ◌++◌, refl, ap, arith}
use Rattle.items.specs.Map.{Items}
use Rattle.item_steps.specs.Effect.{effect}
use Rattle.item_steps.specs.Schedule.{Placed, stamped, items_after, answers_in}
use Rattle.item_steps.specs.declared.step.Stamp.{Stamp}

-- place 0 is at the base
pub stamped_first : (base : Stamp) → stamped base 0 ≡ base
stamped_first base = let stamp : base.stamp + 0 ≡ base.stamp = omega arith in (λ i. record { moment = base.moment; stamp = stamp i })

-- one step more in an order
pub items_push : (base : Stamp) (m : Items) (order : List Placed) (s : Placed) → items_after base m (order ++ s ∷ []) ≡ (effect (items_after base m order) s.1 (stamped base s.0)).0
items_push base m [] s = refl
items_push base m (x ∷ order) s = items_push base (effect m x.1 (stamped base x.0)).0 order s

pub answers_push : (base : Stamp) (m : Items) (order : List Placed) (s : Placed)
    → answers_in base m (order ++ s ∷ []) ≡ answers_in base m order ++ (s.0, (effect (items_after base m order) s.1 (stamped base s.0)).1) ∷ []
answers_push base m [] s = refl
answers_push base m (x ∷ order) s = ap (λ xs. (x.0, (effect m x.1 (stamped base x.0)).1) ∷ xs) (answers_push base (effect m x.1 (stamped base x.0)).0 order s)
