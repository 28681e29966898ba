-- Rows that are taken from what was read, the last one first.
use Rattle.std.proofs.Common.{◌≡◌, ℕ, suc, ◌+◌, ◌-◌, ◌<◌, List, ◌∷◌, length, get_or, drop, sym, ap, ◌∙◌, arith}
use Rattle.std.proofs.Math.Seq.{drop-cons}
use Rattle.sqlite_value.specs.Order.{Row}
use Rattle.item_rows.specs.Changes.{Rows, with_change}
use Rattle.item_rows.specs.RowItems.{RowItems}
use Rattle.shelf.specs.Rows.{row_of_change}
use Rattle.shelf.specs.WaitingView.{changed_rows}
use Rattle.shelf.proofs.WaitingLemmas.{changed_alike}

-- one more of these items was taken
pub one_less : (rows before after : Rows Row) (row_items : List RowItems) (i : ℕ) (x : RowItems) → i < length row_items → get_or row_items (length row_items - 1 - i) x ≡ x
    → ((p : ℕ) → rows p ≡ changed_rows before (drop (length row_items - i) row_items) p) → ((p : ℕ) → before p ≡ with_change after (row_of_change x) p)
    → (p : ℕ) → rows p ≡ changed_rows after (drop (length row_items - (i + 1)) row_items) p
one_less rows before after row_items i x less is was now p =
    let at : length row_items - (i + 1) ≡ length row_items - 1 - i = omega arith in
    let next : suc (length row_items - 1 - i) ≡ length row_items - i = omega (arith, less) in
    was p
    ∙ (changed_alike before (with_change after (row_of_change x)) now (drop (length row_items - i) row_items) p
    ∙ sym (ap (λ n. changed_rows after (drop n row_items) p) at
    ∙ (ap (λ xs. changed_rows after xs p) (drop-cons row_items (length row_items - 1 - i) x (omega (arith, less)))
    ∙ (λ k. changed_rows after (is k ∷ drop (next k) row_items) p))))
