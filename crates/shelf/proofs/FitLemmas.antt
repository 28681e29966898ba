-- What is planned changes rows of the five tables, and each row that is put has a number.
use Rattle.std.proofs.Common.{◌≡◌, ℕ, zero, suc, ◌+◌, ◌<◌, List, [], ◌∷◌, ◌++◌, map, take, Option, None, Some, refl, sym, ap, ◌∙◌, subst, IsTrue, arith}
use Rattle.std.specs.Prelude.{pos, ⊤, All, ◌-◌}
use Rattle.std.specs.List.{AllByRecursion}
use Rattle.std.proofs.lemmas.List.Elements.{All-from_recursion, All-append, All-cons, All-nil}
use Rattle.sqlite_value.specs.Order.{Row}
use Rattle.sqlite_trees.specs.View.{is_int}
use Rattle.row_store.specs.declared.change.RowChange.{RowChange}
use Rattle.row_store.specs.declared.change.RowChange.TheVariants.{Put, Remove}
use Rattle.row_store.specs.Saved.{ChangeFits, ChangesFit}
use Rattle.item_rows.specs.Changes.{ItemChange}
use Rattle.item_rows.specs.RowItems.{RowItems}
use Rattle.shelf.specs.declared.process.SavedProcess.{SavedProcess}
use Rattle.shelf.specs.declared.reply.ReplyChange.{ReplyChange}
use Rattle.shelf.specs.Rows.{change_row, process_row, change_in, row_of_change, row_of_reply}
use Rattle.shelf.specs.WaitingView.{WaitingView, removals, first_after, process_changes, planned}
use Rattle.shelf.proofs.RowLemmas.{IsNumbered}
use Rattle.shelf.proofs.WaitingLemmas.{map_twice, numbered, numbered_replies}

one_fits : (t : ℕ) (c : ItemChange Row) → t < 5 → IsNumbered c → ChangeFits 5 (change_in t c)
one_fits t (n, None) h k = h
one_fits t (n, Some row) h k = (h, subst (λ v. IsTrue (is_int v)) (sym k) refl)

all_fit : (t : ℕ) (cs : List (ItemChange Row)) → t < 5 → AllByRecursion IsNumbered cs → AllByRecursion (ChangeFits 5) (map (change_in t) cs)
all_fit t [] h all = tt
all_fit t (c ∷ cs) h all = (one_fits t c h all.0, all_fit t cs h all.1)

removes_fit : (first n : ℕ) → ChangesFit 5 (removals first n)
removes_fit first zero = All-nil (ChangeFits 5)
removes_fit first (suc n) = All-append (ChangeFits 5) (removals first n) _ (removes_fit first n) (All-cons (ChangeFits 5) _ [] (omega arith) (All-nil (ChangeFits 5)))

process_fits : (process : Option SavedProcess) → ChangesFit 5 (process_changes process)
process_fits None = All-nil (ChangeFits 5)
process_fits (Some p) = All-cons (ChangeFits 5) _ [] (omega arith, refl) (All-nil (ChangeFits 5))

rows_fit : (row_items : List RowItems) → ChangesFit 5 (map (λ c. change_in 0 (row_of_change c)) row_items)
rows_fit row_items = subst (ChangesFit 5) (sym (map_twice (change_in 0) row_of_change row_items)) (All-from_recursion (ChangeFits 5) _ (all_fit 0 (map row_of_change row_items) (omega arith) (numbered row_items)))

replies_fit : (replies : List ReplyChange) → ChangesFit 5 (map (λ r. change_in 3 (row_of_reply r)) replies)
replies_fit replies = subst (ChangesFit 5) (sym (map_twice (change_in 3) row_of_reply replies)) (All-from_recursion (ChangeFits 5) _ (all_fit 3 (map row_of_reply replies) (omega arith) (numbered_replies replies)))

pub planned_fits : (s : WaitingView) (count : ℕ) (changes : List RowItems) (process : Option SavedProcess) (replies : List ReplyChange) → ChangesFit 5 (planned s count changes process replies)
planned_fits s count changes process replies =
    let one = Put 1 (change_row s.next changes) in
    let rows = map (λ c. change_in 0 (row_of_change c)) (take count s.pending) in
    let gone = removals s.first (first_after s count - s.first) in
    let told = process_changes process in
    let a : ChangesFit 5 (one ∷ rows) = All-cons (ChangeFits 5) one rows (omega arith, refl) (rows_fit (take count s.pending)) in
    let b : ChangesFit 5 ((one ∷ rows) ++ gone) = All-append (ChangeFits 5) (one ∷ rows) gone a (removes_fit s.first (first_after s count - s.first)) in
    let d : ChangesFit 5 (((one ∷ rows) ++ gone) ++ told) = All-append (ChangeFits 5) ((one ∷ rows) ++ gone) told b (process_fits process) in
    All-append (ChangeFits 5) (((one ∷ rows) ++ gone) ++ told) (map (λ r. change_in 3 (row_of_reply r)) replies) d (replies_fit replies)
