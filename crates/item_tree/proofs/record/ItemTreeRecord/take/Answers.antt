use Rattle.std.proofs.Common.{◌≡◌, ℕ, List, ◌∷◌, ◌++◌, length, refl, sym, ap, ◌∙◌, arith}
use Rattle.std.proofs.lemmas.Bool.{false≢true}
use Rattle.std.proofs.lemmas.Result.{err_from_is_err_and}
use Rattle.std.specs.FinMap.{from_entries}
use Rattle.wire.specs.Field.{list_text}
use Rattle.wire.specs.FieldLaws.{list_prefix_free}
use Rattle.wire.specs.FrontLaws.{tail_of}
use Rattle.wire.specs.Item.{entry_text}
use Rattle.wire.specs.ItemLaws.{entry_prefix_free}
use Rattle.wire.proofs.Rows.{no_marked_row}
use Rattle.item_tree.specs.Text.{path_entries, tree_text, TreeFits}
use Rattle.item_tree.specs.TextLaws.{paths_make, paths_count}
use Rattle.item_tree.proofs.record.ItemTreeRecord.take.Goals as goal

pub returns-in_err-listed : goal.returns-in_err-listed
unfolding tree_text
returns-in_err-listed c =
    let p = err_from_is_err_and c.from_residual-in_err-listed.result c.from_residual-in_err-listed.ensures.1 in
    rw (p.1, p.2) (no_marked_row TreeFits tree_text _ _ path_entries 6 c.args.bytes.now c.in_ok-rest.rest.now c.in_ok-rest.ensures.ok
    (λ m f. record { count = omega (arith, f, paths_count m); each = λ k d lt. (tt, tt) }) (λ m. refl) c.in_err-listed.field-0.0 c.in_err-listed.ensures)

pub returns-then-not-branch : goal.returns-then-not-branch
unfolding tree_text
returns-then-not-branch c = record {
  none = λ m after f here.
      let whole : 6 ∷ (list_text entry_text (path_entries m) ++ after) ≡ 6 ∷ (list_text entry_text c.in_ok-listed.listed ++ c.in_ok-listed.rest.now) =
      sym here ∙ (c.in_ok-rest.ensures.ok ∙ ap (λ (t : List ℕ). 6 ∷ t) c.in_ok-listed.ensures.1) in
      let both = (list_prefix_free entry_text entry_prefix_free).apart (path_entries m) c.in_ok-listed.listed after c.in_ok-listed.rest.now (tail_of 6 6 _ _ whole) in
      let made = c.in_ok-store.ensures ∙ ap from_entries (c.as_slice.ensures ∙ sym both.0) ∙ paths_make m in
      absurd (false≢true (sym c.if-not-branch.true ∙ c.in_ok-has_order.ensures.1 (ap path_entries made ∙ both.0 ∙ sym c.as_slice-2.ensures)));
}

pub returns : goal.returns
unfolding tree_text
returns c =
    let same = c.in_ok-has_order.ensures.0 c.if-not-branch.false ∙ c.as_slice-2.ensures in (
      omega (arith, c.in_ok-listed.ensures.0.count, ap length same, paths_count c.in_ok-store.store),
      c.in_ok-rest.ensures.ok ∙ ap (λ (t : List ℕ). 6 ∷ t) (c.in_ok-listed.ensures.1 ∙ ap (λ es. list_text entry_text es ++ c.in_ok-listed.rest.now) (sym same)),
    )
