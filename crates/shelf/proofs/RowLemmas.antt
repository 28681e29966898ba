-- What changes make of the rows of a table, and what is at a number then.
use Rattle.std.proofs.Common.{◌≡◌, ℕ, suc, ◌+◌, ◌<◌, Bool, true, false, cond, List, [], ◌∷◌, ◌++◌, Option, None, Some, map, filter, not, refl, sym, ap, ◌∙◌, Ordering, Less, Equal, Greater, is_eq, arith, true≢false, eqb}
use Rattle.std.specs.Prelude.{◌==◌, if◌then◌else◌, pos, ⊤}
use Rattle.std.specs.List.{AllByRecursion}
use Rattle.std.specs.Ordering.{match_ordering, int_cmp}
use Rattle.std.proofs.lemmas.Bool.{eqb-true}
use Rattle.std.proofs.lemmas.Bool.Decides.{nat_tests}
use Rattle.std.proofs.lemmas.Cmp.{alike_right}
use Rattle.sqlite_value.specs.declared.value.Value.TheVariants.{Int}
use Rattle.sqlite_value.specs.Order.{Row, value_cmp}
use Rattle.sqlite_value.proofs.OrderLemmas.{value_cmp_total, value_cmp-Int}
use Rattle.sqlite_trees.specs.Tree.{Trees, rowid, has_rowid, put_row, without_rowid, with_tree}
use Rattle.row_store.specs.declared.change.RowChange.{RowChange}
use Rattle.row_store.specs.Saved.{after, after_one}
use Rattle.item_rows.specs.Changes.{Rows, ItemChange, with_change, rows_after}
use Rattle.shelf.specs.Rows.{row_at, change_in}

is_equal : (o : Ordering) → is_eq o ≡ true → o ≡ Equal
is_equal Less h = absurd (true≢false (sym h))
is_equal Equal h = refl
is_equal Greater h = absurd (true≢false (sym h))

int_same : (m n : ℕ) → is_eq (int_cmp (pos m) (pos n)) ≡ (n == m)
int_same m n = grind (arith, nat_tests)

-- numbers as rowids
pub number_same : (m n : ℕ) → is_eq (value_cmp (Int (pos m)) (Int (pos n))) ≡ (n == m)
number_same m n = ap is_eq (value_cmp-Int (pos m) (pos n)) ∙ int_same m n

-- a row of this number has another number only if it is the same
pub has_number : (n m : ℕ) (row : Row) → rowid row ≡ Int (pos m) → has_rowid (pos n) row ≡ (n == m)
has_number n m row h = ap (λ v. is_eq (value_cmp v (Int (pos n)))) h ∙ number_same m n

-- a row that has one number has no other one
pub same_number : (n m : ℕ) (row : Row) → has_rowid (pos m) row ≡ true → has_rowid (pos n) row ≡ (n == m)
same_number n m row h = ap is_eq (value_cmp_total.congr (rowid row) (Int (pos m)) (Int (pos n)) (is_equal _ h)) ∙ number_same m n

pub at-put_row : (new : Row) (rows : List Row) (n : ℕ) → row_at (put_row new rows) n ≡ (if has_rowid (pos n) new then Some new else row_at rows n)
at-put_row new [] n = refl
at-put_row new (r ∷ rows) n = go (value_cmp (rowid r) (rowid new)) refl (at-put_row new rows n)
  where
    old : Option Row
    old = if has_rowid (pos n) r then Some r else row_at rows n

    less : (h k : Bool) → has_rowid (pos n) r ≡ h → has_rowid (pos n) new ≡ k → value_cmp (rowid r) (rowid new) ≡ Less
        → row_at (put_row new rows) n ≡ (if has_rowid (pos n) new then Some new else row_at rows n)
        → row_at (r ∷ put_row new rows) n ≡ (if has_rowid (pos n) new then Some new else old)
    less true true in_r in_new e more =
        absurd (true≢false (ap is_eq (sym (alike_right value_cmp_total (rowid new) (Int (pos n)) (rowid r) (is_equal _ in_new) ∙ is_equal _ in_r) ∙ e)))
    less true false in_r in_new e more = rw (in_r, in_new) refl
    less false k in_r in_new e more = rw in_r more

    go : (o : Ordering) → value_cmp (rowid r) (rowid new) ≡ o
        → row_at (put_row new rows) n ≡ (if has_rowid (pos n) new then Some new else row_at rows n)
        → row_at (match_ordering o (r ∷ put_row new rows) (new ∷ rows) (new ∷ r ∷ rows)) n ≡ (if has_rowid (pos n) new then Some new else old)
    go Less e more = less (has_rowid (pos n) r) (has_rowid (pos n) new) refl refl e more
    go Equal e more =
        let same : has_rowid (pos n) r ≡ has_rowid (pos n) new = ap is_eq (value_cmp_total.congr (rowid r) (rowid new) (Int (pos n)) e) in
        equal (has_rowid (pos n) new) refl same
      where
        equal : (k : Bool) → has_rowid (pos n) new ≡ k → has_rowid (pos n) r ≡ has_rowid (pos n) new
            → row_at (new ∷ rows) n ≡ (if has_rowid (pos n) new then Some new else old)
        equal true in_new same = rw in_new refl
        equal false in_new same = let in_r = same ∙ in_new in rw (in_new, in_r) refl
    go Greater e more = refl

none_either : (n : ℕ) (b : Bool) → row_at [] n ≡ (if b then None else row_at [] n)
none_either n true = refl
none_either n false = refl

pub at-without_rowid : (m : ℕ) (rows : List Row) (n : ℕ) → row_at (without_rowid (pos m) rows) n ≡ (if n == m then None else row_at rows n)
at-without_rowid m [] n = none_either n (n == m)
at-without_rowid m (r ∷ rows) n = go (has_rowid (pos m) r) (n == m) refl refl (at-without_rowid m rows n)
  where
    go : (h k : Bool) → has_rowid (pos m) r ≡ h → (n == m) ≡ k → row_at (without_rowid (pos m) rows) n ≡ (if n == m then None else row_at rows n)
        → row_at (without_rowid (pos m) (r ∷ rows)) n ≡ (if n == m then None else row_at (r ∷ rows) n)
    go true true in_r is more = rw (in_r, is) (more ∙ rw is refl)
    go true false in_r is more = let none = same_number n m r in_r ∙ is in rw (in_r, is, none) (more ∙ rw is refl)
    go false true in_r is more = let none : has_rowid (pos n) r ≡ false = same (eqb-true n m is) in rw (in_r, is, none) (more ∙ rw is refl)
      where
        same : n ≡ m → has_rowid (pos n) r ≡ false
        same e = ap (λ (k : ℕ). has_rowid (pos k) r) e ∙ in_r
    go false false in_r is more = rw (in_r, is) (ap (λ (o : Option Row). if has_rowid (pos n) r then Some r else o) (more ∙ rw is refl))

pub tree_itself : (db : Trees) (t : ℕ) (rows : List Row) → with_tree db t rows t ≡ rows
tree_itself db t rows = let same : (t == t) ≡ true = grind (arith, nat_tests) in rw same refl

pub tree_other : (db : Trees) (t u : ℕ) (rows : List Row) → (u == t) ≡ false → with_tree db t rows u ≡ db u
tree_other db t u rows h = rw h refl

-- the row of a change has its number
abbrev pub IsNumbered : ItemChange Row → Type 0
IsNumbered (n, None) = ⊤
IsNumbered (n, Some row) = rowid row ≡ Int (pos n)

one_change : (t : ℕ) (c : ItemChange Row) (db : Trees) → IsNumbered c → (n : ℕ) → row_at (after_one db (change_in t c) t) n ≡ with_change (row_at (db t)) c n
one_change t (m, None) db h n = ap (λ rows. row_at rows n) (tree_itself db t (without_rowid (pos m) (db t))) ∙ at-without_rowid m (db t) n
one_change t (m, Some row) db h n =
    ap (λ rows. row_at rows n) (tree_itself db t (put_row row (db t)))
    ∙ (at-put_row row (db t) n ∙ ap (λ (b : Bool). if b then Some row else row_at (db t) n) (has_number n m row h))

one_other : (t u : ℕ) (c : ItemChange Row) (db : Trees) → (u == t) ≡ false → after_one db (change_in t c) u ≡ db u
one_other t u (m, None) db h = tree_other db t u _ h
one_other t u (m, Some row) db h = tree_other db t u _ h

-- changes of a table change what is at each number, in order
pub all_changes : (t : ℕ) (cs : List (ItemChange Row)) → AllByRecursion IsNumbered cs → (db : Trees) (n : ℕ)
    → row_at (after (map (change_in t) cs) db t) n ≡ rows_after (row_at (db t)) cs n
all_changes t [] h db n = refl
all_changes t (c ∷ cs) h db n =
    all_changes t cs h.1 (after_one db (change_in t c)) n
    ∙ ap (λ (rows : Rows Row). rows_after rows cs n) (λ i m. one_change t c db h.0 m i)

pub all_others : (t u : ℕ) (cs : List (ItemChange Row)) → (u == t) ≡ false → (db : Trees) → after (map (change_in t) cs) db u ≡ db u
all_others t u [] h db = refl
all_others t u (c ∷ cs) h db = all_others t u cs h (after_one db (change_in t c)) ∙ one_other t u c db h

pub after-append : (xs ys : List RowChange) (db : Trees) → after (xs ++ ys) db ≡ after ys (after xs db)
after-append [] ys db = refl
after-append (x ∷ xs) ys db = after-append xs ys (after_one db x)
