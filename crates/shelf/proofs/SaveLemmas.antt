-- What a save leaves, from what was planned.
use Rattle.std.proofs.Common.{◌≡◌, ◌⊎◌, ℕ, List, sym, ap, ◌∙◌, subst, Option}
use mathlib.Core.Logic.{∥∥₁_map}
use Rattle.sqlite_trees.specs.Tree.{Trees}
use Rattle.row_store.specs.declared.change.RowChange.{RowChange}
use Rattle.row_store.specs.Saved.{after}
use Rattle.item_rows.specs.RowItems.{RowItems}
use Rattle.shelf.specs.declared.process.SavedProcess.{SavedProcess}
use Rattle.shelf.specs.declared.reply.ReplyChange.{ReplyChange}
use Rattle.shelf.specs.Rows.{row_at}
use Rattle.shelf.specs.WaitingView.{changed_rows, WaitingView, items_at, HasWaiting, planned, waiting_after, IsAfterSave, Rotates}
use Rattle.shelf.proofs.WaitingLemmas.{is_after_save, saved_waiting, saved_items}

module _ (db now : Trees) (s s1 : WaitingView) (count : ℕ) (changes : List RowItems) (process : Option SavedProcess) (replies : List ReplyChange) (all : List RowChange)
    (same : s1 ≡ s) (is_planned : all ≡ planned s1 count changes process replies) (is : now ≡ after all db) where
  made : now ≡ after (planned s1 count changes process replies) db
  made = is ∙ ap (λ (cs : List RowChange). after cs db) is_planned

  pub is_saved : ∥ HasWaiting db s ∥₁ → IsAfterSave db (items_at s (row_at (db 0))) changes process replies now
  is_saved h =
      subst (λ (t : Trees). IsAfterSave db (items_at s (row_at (db 0))) changes process replies t)
      (sym (made ∙ ap (λ (t : WaitingView). after (planned t count changes process replies) db) same))
      (is_after_save db s count changes process replies h)

  pub waiting_saved : (noted rotated : WaitingView) → noted ≡ waiting_after s1 count changes → (rotated ≡ noted) ⊎ Rotates noted rotated → ∥ HasWaiting db s ∥₁ → ∥ HasWaiting now rotated ∥₁
  waiting_saved noted rotated note rotates waiting_view =
      ∥∥₁_map waiting_view (λ h. saved_waiting db now s1 noted rotated count changes process replies made note rotates (subst (HasWaiting db) (sym same) h))

  pub items_saved : (noted rotated : WaitingView) → noted ≡ waiting_after s1 count changes → (rotated ≡ noted) ⊎ Rotates noted rotated
      → (p : ℕ) → items_at rotated (row_at (now 0)) p ≡ changed_rows (items_at s (row_at (db 0))) changes p
  items_saved noted rotated note rotates p =
      saved_items db now s1 noted rotated count changes process replies made note rotates p ∙ ap (λ (t : WaitingView). changed_rows (items_at t (row_at (db 0))) changes p) same
