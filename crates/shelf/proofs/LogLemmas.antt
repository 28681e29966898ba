-- The rows of changes: one more at the end, and the first ones that go.
use Rattle.std.proofs.Common.{◌≡◌, ℕ, zero, suc, ◌+◌, ◌-◌, ◌<◌, ◌≤◌, Bool, true, false, List, [], ◌∷◌, ◌++◌, length, drop, filter, not, refl, sym, ap, ◌∙◌, Ordering, Less, is_eq, arith}
use Rattle.std.specs.Prelude.{◌==◌, pos}
use Rattle.std.specs.Ordering.{match_ordering, int_cmp}
use Rattle.std.proofs.lemmas.Bool.Decides.{nat_tests}
use Rattle.sqlite_value.specs.declared.value.Value.TheVariants.{Int}
use Rattle.sqlite_value.specs.Order.{Row, value_cmp}
use Rattle.sqlite_value.proofs.OrderLemmas.{value_cmp-Int}
use Rattle.sqlite_trees.specs.Tree.{Trees, has_rowid, put_row, without_rowid}
use Rattle.row_store.specs.declared.change.RowChange.{RowChange}
use Rattle.row_store.specs.declared.change.RowChange.TheVariants.{Remove}
use Rattle.row_store.specs.Saved.{after, after_one}
use Rattle.item_rows.specs.RowItems.{RowItems}
use Rattle.shelf.specs.Rows.{change_row, change_rows}
use Rattle.shelf.specs.WaitingView.{removals}
use Rattle.shelf.proofs.RowLemmas.{number_same, after-append, tree_other}

int_less : (a b : ℕ) → a < b → int_cmp (pos a) (pos b) ≡ Less
int_less a b h = grind (arith, nat_tests)

-- the row of the next save goes behind the others
pub log_put : (first next : ℕ) (log : List (List RowItems)) (changes : List RowItems) → first + length log ≡ next
    → put_row (change_row next changes) (change_rows first log) ≡ change_rows first (log ++ changes ∷ [])
log_put first next [] changes e = let same : next ≡ first = omega (arith, e) in ap (λ (n : ℕ). change_row n changes ∷ []) same
log_put first next (c ∷ log) changes e =
    let less : value_cmp (Int (pos first)) (Int (pos next)) ≡ Less = value_cmp-Int (pos first) (pos next) ∙ int_less first next (omega (arith, e)) in
    rw less (ap (λ (rows : List Row). change_row first c ∷ rows) (log_put (suc first) next log changes (omega (arith, e))))

later_stay : (m k : ℕ) (log : List (List RowItems)) → m < k → without_rowid (pos m) (change_rows k log) ≡ change_rows k log
later_stay m k [] h = refl
later_stay m k (c ∷ log) h =
    let other : is_eq (value_cmp (Int (pos k)) (Int (pos m))) ≡ false = number_same k m ∙ grind (arith, nat_tests) in
    rw other (ap (λ (rows : List Row). change_row k c ∷ rows) (later_stay m (suc k) log (omega (arith, h))))

first_goes : (m : ℕ) (c : List RowItems) (log : List (List RowItems)) → without_rowid (pos m) (change_rows m (c ∷ log)) ≡ change_rows (suc m) log
first_goes m c log =
    let same : is_eq (value_cmp (Int (pos m)) (Int (pos m))) ≡ true = number_same m m ∙ grind (arith, nat_tests) in
    rw same (later_stay m (suc m) log (omega arith))

drop_step : {X : Type 0} (n : ℕ) (xs : List X) → n < length xs → (x : X) × (drop n xs ≡ x ∷ drop (suc n) xs)
drop_step n [] h = absurd (omega (arith, h))
drop_step zero (x ∷ xs) h = (x, refl)
drop_step (suc n) (x ∷ xs) h = drop_step n xs (omega (arith, h))

-- the first rows go
pub log_removed : (n first : ℕ) (log : List (List RowItems)) (db : Trees) → n ≤ length log → db 1 ≡ change_rows first log
    → after (removals first n) db 1 ≡ change_rows (first + n) (drop n log)
log_removed zero first log db h is = is ∙ ap (λ (m : ℕ). change_rows m log) (omega arith)
log_removed (suc n) first log db h is =
    let step = drop_step n log (omega (arith, h)) in
    let more = log_removed n first log db (omega (arith, h)) is in
    ap (λ (t : Trees). t 1) (after-append (removals first n) (Remove 1 (pos (first + n)) ∷ []) db)
    ∙ (ap (λ (rows : List Row). without_rowid (pos (first + n)) rows) (more ∙ ap (λ (rest : List (List RowItems)). change_rows (first + n) rest) step.1)
    ∙ (first_goes (first + n) step.0 (drop (suc n) log) ∙ ap (λ (m : ℕ). change_rows m (drop (suc n) log)) (omega arith)))

pub removes_others : (n first u : ℕ) (db : Trees) → (u == 1) ≡ false → after (removals first n) db u ≡ db u
removes_others zero first u db h = refl
removes_others (suc n) first u db h =
    ap (λ (t : Trees). t u) (after-append (removals first n) (Remove 1 (pos (first + n)) ∷ []) db)
    ∙ (tree_other (after (removals first n) db) 1 u _ h ∙ removes_others n first u db h)

-- one row more goes
pub removes_next : (first number : ℕ) → first ≤ number → removals first (number + 1 - first) ≡ removals first (number - first) ++ Remove 1 (pos number) ∷ []
removes_next first number h =
    let count : number + 1 - first ≡ suc (number - first) = omega (arith, h) in
    let same : first + (number - first) ≡ number = omega (arith, h) in
    ap (removals first) count ∙ ap (λ n. removals first (number - first) ++ Remove 1 (pos n) ∷ []) same
