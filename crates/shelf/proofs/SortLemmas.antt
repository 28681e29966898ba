-- A stable sort by row numbers leaves the changes of each row in their order.
use Rattle.std.proofs.Common.{◌≡◌, ℕ, ◌+◌, ◌<◌, ◌≤◌, Bool, true, false, not, List, [], ◌∷◌, map, filter, Option, None, Some, refl, sym, ap, ◌∙◌, arith}
use Rattle.std.specs.Prelude.{◌==◌, ◌&&◌, if◌then◌else◌}
use Rattle.std.specs.Ordering.{is_lt, nat_cmp}
use Rattle.std.specs.List.Sorted.{ties, IsStableByKey}
use Rattle.std.proofs.lemmas.Bool.Decides.{nat_tests}
use Rattle.sqlite_value.specs.Order.{Row}
use Rattle.item_rows.specs.Changes.{or_first, last_change}
use Rattle.item_rows.specs.RowItems.{RowItems}
use Rattle.shelf.specs.Rows.{row_of_change}
use Rattle.shelf.specs.WaitingView.{IsResorted}

abbrev before : RowItems → RowItems → Bool
before x y = is_lt (nat_cmp x.0 y.0)

-- any change of this row
abbrev change_at : ℕ → RowItems
change_at p = (p, [])

numbers_tie : (p n : ℕ) → (not (is_lt (nat_cmp p n)) && not (is_lt (nat_cmp n p))) ≡ (p == n)
numbers_tie p n = grind (arith, nat_tests)

or_none : {X : Type 0} (o : Option (Option X)) → or_first o None ≡ o
or_none None = refl
or_none (Some v) = refl

-- the changes of a row decide what is there
only_its_own : (p : ℕ) (xs : List RowItems) → last_change p (map row_of_change xs) ≡ last_change p (map row_of_change (filter (ties before (change_at p)) xs))
only_its_own p [] = refl
only_its_own p (x ∷ xs) = go (p == x.0) refl (only_its_own p xs)
  where
    go : (b : Bool) → (p == x.0) ≡ b → last_change p (map row_of_change xs) ≡ last_change p (map row_of_change (filter (ties before (change_at p)) xs))
        → last_change p (map row_of_change (x ∷ xs)) ≡ last_change p (map row_of_change (filter (ties before (change_at p)) (x ∷ xs)))
    go true same more =
        let kept : ties before (change_at p) x ≡ true = numbers_tie p x.0 ∙ same in
        rw kept (ap (λ (o : Option (Option Row)). or_first o (if p == x.0 then Some (row_of_change x).1 else None)) more)
    go false other more =
        let gone : ties before (change_at p) x ≡ false = numbers_tie p x.0 ∙ other in
        rw (gone, other) (or_none _ ∙ more)

pub resorted : (old new : List RowItems) → IsStableByKey (λ (c : RowItems). c.0) nat_cmp old new → IsResorted old new
resorted old new stable p =
    only_its_own p new ∙ (ap (λ (xs : List RowItems). last_change p (map row_of_change xs)) (stable (change_at p)) ∙ sym (only_its_own p old))
