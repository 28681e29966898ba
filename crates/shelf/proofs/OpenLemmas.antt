-- What is read of a file's changes is as the file has it.
use Rattle.std.proofs.Common.{◌⊎◌, inl, inr, subst, ◌≡◌, ℕ, zero, suc, Bool, Option, None, ◌+◌, ◌-◌, ◌<◌, ◌≤◌, List, [], ◌∷◌, ◌++◌, length, get_or, take, drop, refl, sym, ap, ◌∙◌, arith, append-nil}
use Rattle.std.proofs.Math.Seq.{drop-cons}
use Rattle.std.specs.Prelude.{◌==◌, pos, if◌then◌else◌, Some, ⊤}
use Rattle.std.proofs.lemmas.List.{take_more, length-take-le, length-append}
use Rattle.sqlite_value.specs.Order.{Row}
use Rattle.sqlite_trees.specs.Tree.{Trees, has_rowid}
use Rattle.item_rows.specs.Row.{full_row}
use Rattle.item_rows.specs.Changes.{Rows, with_change}
use Rattle.item_rows.specs.RowItems.{RowItems, items_row, more_column}
use Rattle.shelf.specs.Rows.{row_at, change_row, change_rows, row_of_change}
use Rattle.shelf.specs.WaitingView.{all_of, changed_rows, IsLog, WaitingView, HasWaiting, Rotates}
use Rattle.shelf.proofs.WaitingLemmas.{all_of-append, changed_rows-append, changed_alike, rotated_waits}
use Rattle.shelf.proofs.RowLemmas.{has_number}

length-change_rows : (first : ℕ) (log : List (List RowItems)) → length (change_rows first log) ≡ length log
length-change_rows first [] = refl
length-change_rows first (c ∷ log) = ap suc (length-change_rows (suc first) log)

change_rows-snoc : (first next : ℕ) (log : List (List RowItems)) (c : List RowItems) → first + length log ≡ next
    → change_rows first log ++ change_row next c ∷ [] ≡ change_rows first (log ++ c ∷ [])
change_rows-snoc first next [] c e = let same : next ≡ first = omega (arith, e) in ap (λ (n : ℕ). change_row n c ∷ []) same
change_rows-snoc first next (x ∷ log) c e = ap (λ (rows : List Row). change_row first x ∷ rows) (change_rows-snoc (suc first) next log c (omega (arith, e)))

-- one row more is read
pub log_more : (first i : ℕ) (rows : List Row) (all changes : List RowItems) (row : Row) → i < length rows → get_or rows i row ≡ change_row (first + i) changes
    → IsLog first (take i rows) all → IsLog first (take (i + 1) rows) (all ++ changes)
log_more first i rows all changes row less is h =
    let count : length h.log ≡ i = sym (length-change_rows first h.log) ∙ (ap length (sym h.has_log) ∙ length-take-le i rows (omega (arith, less))) in
    record {
      log = h.log ++ changes ∷ [];
      has_log = take_more rows i row less
          ∙ ((λ k. h.has_log k ++ is k ∷ [])
          ∙ change_rows-snoc first (first + i) h.log changes (ap (λ n. first + n) count));
      all_are = ap (λ xs. xs ++ changes) h.all_are ∙ (ap (λ xs. all_of h.log ++ xs) (sym (append-nil changes)) ∙ sym (all_of-append h.log (changes ∷ [])));
    }

pub no_log : (first : ℕ) → IsLog first [] []
no_log first = record { log = []; has_log = refl; all_are = refl }

-- all changes of a file are gathered, and none is in a row yet
pub log_waiting : (first next : ℕ) (rows : List Row) (all : List RowItems) → first + length rows ≡ next → IsLog first rows all → (db : Trees) → db 1 ≡ rows
    → HasWaiting db (record { pending = []; gathered = all; first = first; middle = first; next = next })
log_waiting first next rows all e h db is = record {
  earlier = [];
  later = h.log;
  has_log = is ∙ h.has_log;
  earlier_are = omega arith;
  later_are = let count = length-change_rows first h.log in let same = ap length h.has_log in omega (arith, e, count, same);
  gathered = sym h.all_are;
  rest = λ p. refl;
  named = λ p none. none;
}

-- what is in memory after an open is as the file has it
pub waiting_read : (first next : ℕ) (rows : List Row) (all : List RowItems) (begun rotated : WaitingView) → begun ≡ record { pending = []; gathered = all; first = first; middle = first; next = next }
    → (rotated ≡ begun) ⊎ Rotates begun rotated → first + length rows ≡ next → IsLog first rows all → (db : Trees) → db 1 ≡ rows → HasWaiting db rotated
waiting_read first next rows all begun rotated begins rotates e h db is =
    let at_first : HasWaiting db begun = subst (HasWaiting db) (sym begins) (log_waiting first next rows all e h db is) in
    elim rotates [ inl same ↦ subst (HasWaiting db) (sym same) at_first | inr over ↦ rotated_waits db begun rotated over at_first ]

-- rows that are read from the last one to the first
pub rows_back : (rows : List Row) (i : ℕ) (row : Row) → i < length rows → get_or rows (length rows - 1 - i) row ≡ row → (p : ℕ)
    → row_at (drop (length rows - (i + 1)) rows) p ≡ (if has_rowid (pos p) row then Some row else row_at (drop (length rows - i) rows) p)
rows_back rows i row less is p =
    let at : length rows - (i + 1) ≡ length rows - 1 - i = omega arith in
    let after : suc (length rows - 1 - i) ≡ length rows - i = omega (arith, less) in
    ap (λ n. row_at (drop n rows) p) at
    ∙ (ap (λ xs. row_at xs p) (drop-cons rows (length rows - 1 - i) row (omega (arith, less)))
    ∙ (λ k. if has_rowid (pos p) (is k) then Some (is k) else row_at (drop (after k) rows) p))

-- one change more is noted
pub changed_more : (rows old new : Rows Row) (xs : List RowItems) (i : ℕ) (x : RowItems) → i < length xs → get_or xs i x ≡ x
    → ((p : ℕ) → old p ≡ changed_rows rows (take i xs) p) → ((p : ℕ) → new p ≡ with_change old (row_of_change x) p) → (p : ℕ) → new p ≡ changed_rows rows (take (i + 1) xs) p
changed_more rows old new xs i x less is was now p =
    now p
    ∙ (changed_alike old (changed_rows rows (take i xs)) was (x ∷ []) p
    ∙ (sym (changed_rows-append rows (take i xs) (x ∷ []) p)
    ∙ ap (λ ys. changed_rows rows ys p) ((λ k. take i xs ++ sym is k ∷ []) ∙ sym (take_more xs i x less))))

abbrev IsNoRow : Option Row → Type 0
IsNoRow None = ⊤
IsNoRow (Some row) = ⊥

-- what a row has is at its number
pub row_items_found : (row_items : RowItems) (row : Row) → items_row row_items ≡ Some row → (old : Rows Row) (p : ℕ)
    → with_change old (row_of_change row_items) p ≡ (if has_rowid (pos p) row then Some row else old p)
row_items_found (row_number, []) row h old p = absurd (subst IsNoRow h tt)
row_items_found (row_number, e ∷ es) row h old p =
    let same : full_row (pos row_number) e.0 e.1 (more_column es) ≡ row = cc in
    subst (λ (r : Row). (if p == row_number then Some (full_row (pos row_number) e.0 e.1 (more_column es)) else old p) ≡ (if has_rowid (pos p) r then Some r else old p)) same
    (ap (λ (b : Bool). if b then Some (full_row (pos row_number) e.0 e.1 (more_column es)) else old p) (sym (has_number p row_number (full_row (pos row_number) e.0 e.1 (more_column es)) refl)))

pub take_whole : {X : Type 0} (xs : List X) (n : ℕ) → length xs ≤ n → take n xs ≡ xs
take_whole [] zero h = refl
take_whole [] (suc n) h = refl
take_whole (x ∷ xs) zero h = absurd (omega (arith, h))
take_whole (x ∷ xs) (suc n) h = ap (λ ys. x ∷ ys) (take_whole xs n (omega (arith, h)))
