-- What a cursor at the first entry gives, and how the calls of a reading add up.
use Rattle.std.proofs.Common.{◌≡◌, ℕ, List, [], ◌∷◌, refl, arith, inl, inr}
use Rattle.sqlite_value.specs.declared.keys.Order.{Order}
use Rattle.sqlite_value.specs.Order.{Row}
use Rattle.sqlite_trees.specs.declared.store.Direction.TheVariants.{Forward}
use Rattle.sqlite_trees.specs.Tree.{Trees, sought}
use Rattle.sqlite_trees.specs.View.{View, IsQuiet}

pub sought_all : (o : Order) (es : List Row) → sought o Forward [] es ≡ es
sought_all o [] = refl
sought_all o (e ∷ es) = refl

pub quiet_along : {S : Type 0} {view : S → View} {faults : S → ℕ} {recovers : S → Trees → Type 0} {Shielded : S → Type 0} {a b c : S}
    → IsQuiet view faults recovers Shielded a b → IsQuiet view faults recovers Shielded b c → IsQuiet view faults recovers Shielded a c
quiet_along p q = record {
  shield = λ h. q.shield (p.shield h);
  clean = omega (arith, p.clean, q.clean);
  counts = omega (arith, p.counts, q.counts);
  closes = λ now was. elim (p.closes (omega (arith, q.clean)) was) [
    | inl still ↦ elim (q.closes now still) [ inl open_now ↦ inl open_now | inr fault ↦ inr (omega (arith, p.counts)) ]
    | inr fault ↦ inr (omega (arith, q.counts))
  ];
  outcomes = λ db may. p.outcomes db (q.outcomes db may);
}
