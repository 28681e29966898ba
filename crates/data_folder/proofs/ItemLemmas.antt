-- What a save leaves of the items of a state.
use Rattle.std.proofs.Common.{◌≡◌, ◌∙◌, ℕ, List, [], ◌∷◌, map, Option, None, Some, IsTrue, refl, sym, ap, subst}
use Rattle.std.specs.Prelude.{◌==◌, ◌/◌, ◌^◌, if◌then◌else◌, filter, length, Result, Ok, Err, OnOk, OnErr, IsSomeAnd}
use Rattle.std.specs.Result.{is_ok}
use Rattle.std.specs.FinMap.{entries, from_sorted, len-entries, len-empty, entries-from_sorted}
use Rattle.std.proofs.lemmas.List.{nil_from_length}
use mathlib.Core.Logic.{∥∥₁_map}
use Rattle.items.specs.declared.item.Item.{Item}
use Rattle.items.specs.Map.{Items, by_bytes}
use Rattle.sqlite_value.specs.Order.{Row}
use Rattle.sqlite_trees.specs.Tree.{Trees}
use Rattle.sqlite_trees.specs.View.{View, IsClean}
use Rattle.item_rows.specs.Changes.{Rows, ItemChange, with_change, rows_after}
use Rattle.item_tree.specs.Text.{path_entries}
use Rattle.item_tree.specs.TextLaws.{paths_count}
use Rattle.pages.specs.Page.{Laid, page_number, page_entries, page_items}
use Rattle.pages.specs.Form.{layout_of}
use Rattle.item_rows.specs.Changed.{in_row, rows_of, AreSnapshotsTold, LeadTo}
use Rattle.item_rows.specs.RowItems.{RowItems, row_of_items}
use Rattle.shelf.specs.declared.process.SavedProcess.{SavedProcess}
use Rattle.shelf.specs.declared.reply.ReplyChange.{ReplyChange}
use Rattle.shelf.specs.declared.waiting.WaitingChanges.{WaitingChanges}
use Rattle.shelf.specs.InMemory.{items_in}
use Rattle.shelf.specs.Rows.{row_of_change}
use Rattle.shelf.specs.WaitingView.{changed_rows, IsAfterSave, SaysItems}
use Rattle.states.specs.State.{StateView, initial_state}
use Rattle.data_folder.specs.declared.found_copy.FoundCopy.{FoundCopy}
use Rattle.data_folder.specs.Found.{SavedText, SavesText, HoldsSomeText}
use Rattle.data_folder.specs.Items.{AreRowsOf, SaysItemsOf, HoldsRecord, CrashLeaves, laid_of, AreStatesTold, HasItemsOf, IsStateFound, OpensWith}
use Rattle.data_folder.proofs.FolderLemmas.{fits_in}

-- changes make the same of the same row
same_at : (rows other : Rows Row) (cs : List (ItemChange Row)) (p : ℕ) → rows p ≡ other p → rows_after rows cs p ≡ rows_after other cs p
same_at rows other [] p e = e
same_at rows other (c ∷ cs) p e = same_at (with_change rows c) (with_change other c) cs p (ap (λ (r : Option Row). if p == c.0 then c.1 else r) e)

-- rows that are all of these items are all of those after the changes
pub items_saved : (before after : Rows Row) (changes : List RowItems) (old new : Items) → AreRowsOf before old → LeadTo changes old new → ((p : ℕ) → after p ≡ changed_rows before changes p) → AreRowsOf after new
items_saved before after changes old new are leads is p less = is p ∙ (same_at before (rows_of old) (map row_of_change changes) p (are p less) ∙ leads p less)

-- what becomes of the snapshots of two states becomes of their items
pub states_lead : (old new : Laid) (a b : StateView) (changes : List RowItems) → old.items ≡ a.items → old.layout ≡ layout_of a.form → new.items ≡ b.items → new.layout ≡ layout_of b.form
    → (AreSnapshotsTold old new → LeadTo changes old.items new.items) → AreStatesTold a b → LeadTo changes a.items b.items
states_lead old new a b changes old_items old_layout new_items new_layout leads told =
    let olds : old ≡ laid_of a = (λ i. record { items = old_items i; layout = old_layout i }) in
    let news : new ≡ laid_of b = (λ i. record { items = new_items i; layout = new_layout i }) in
    subst (λ (l : Laid). LeadTo changes l.items b.items) olds
    (subst (λ (l : Laid). LeadTo changes old.items l.items) news
    (leads (subst (λ (l : Laid). AreSnapshotsTold l new) (sym olds) (subst (λ (l : Laid). AreSnapshotsTold (laid_of a) l) (sym news) told))))

no_entries : entries initial_state.items ≡ []
no_entries = nil_from_length (entries initial_state.items) (sym (len-entries initial_state.items) ∙ len-empty by_bytes Item)

no_paths : (n : ℕ) → path_entries (page_items initial_state.items n) ≡ []
no_paths n =
    let page : page_entries initial_state.items n ≡ [] = ap (λ (es : List (List ℕ × Item)). filter (λ e. page_number e.0 == n) es) no_entries in
    nil_from_length (path_entries (page_items initial_state.items n))
    (paths_count (page_items initial_state.items n)
    ∙ ap (λ (es : List (List ℕ × Item)). length (entries (from_sorted {R = by_bytes} es))) page
    ∙ ap length (entries-from_sorted by_bytes [] tt))

-- no items have no rows
no_rows : (p : ℕ) → None ≡ rows_of initial_state.items p
no_rows p = sym (ap (λ (es : List (List ℕ × Item)). row_of_items p (in_row p es)) (no_paths (p / 2 ^ 55)))

-- what came of no items is all of these
pub rows_of_all : (rows : Rows Row) (changes : List RowItems) (m : Items) → ((p : ℕ) → rows p ≡ changed_rows (λ _. None) changes p) → LeadTo changes initial_state.items m → AreRowsOf rows m
rows_of_all rows changes m is leads = items_saved (λ _. None) rows changes initial_state.items m (λ p less. no_rows p) leads is

-- what was read are the rows that the file says
pub rows_read : (old new : Trees) (before now : WaitingChanges) (found : Rows Row) (m : Items) → new ≡ old → now ≡ before → ((p : ℕ) → found p ≡ items_in old before p) → AreRowsOf found m → AreRowsOf (items_in new now) m
rows_read old new before now found m same memory is are p less = (λ i. items_in (same i) (memory i) p) ∙ (sym (is p) ∙ are p less)

-- what was prepared leads from the state of which the file has the items
pub prepared_lead : (mine last new made : StateView) (changes : List RowItems) → mine ≡ last → made ≡ new → (AreStatesTold mine new → LeadTo changes mine.items new.items) → AreStatesTold last new → LeadTo changes last.items made.items
prepared_lead mine last new made changes is same leads told =
    subst (λ (s : StateView). LeadTo changes s.items made.items) is
    (subst (λ (s : StateView). LeadTo changes mine.items s.items) (sym same) (leads (subst (λ (s : StateView). AreStatesTold s new) (sym is) told)))

-- what holds in any case
pub on_err_always : {T E P : Type 0} (r : Result T E) → P → OnErr r P
on_err_always (Ok x) p = tt
on_err_always (Err e) p = p

-- after another error too
pub on_ok_as : {T E F : Type 0} (P : Type 0) (r : Result T E) (q : Result T F) → is_ok q ≡ is_ok r → OnOk r P → OnOk q P
on_ok_as P (Ok x) (Ok y) e p = p
on_ok_as P (Ok x) (Err f) e p = tt
on_ok_as P (Err x) (Ok y) e p = absurd (cc e)
on_ok_as P (Err x) (Err f) e p = tt

-- what a save leaves has the text of the save and the items of the state
pub record_after : (old new : Trees) (rows : Rows Row) (changes : List RowItems) (process : Option SavedProcess) (replies : List ReplyChange) (s : SavedText) (last : Items) (state : StateView)
    → IsSomeAnd process (SavesText s) → IsAfterSave old rows changes process replies new → HoldsSomeText old → AreRowsOf rows last → LeadTo changes last state.items → ∥ HoldsRecord new s state ∥₁
record_after old new rows changes None replies s last state is save kept are leads = absurd is
record_after old new rows changes (Some saved) replies s last state is save kept are leads =
    ∥∥₁_map kept (λ was. record {
      text = record { saved = Some saved; fits = fits_in s saved is; row = save.process_is was.1.saved was.1.row; is = λ i. Some (record { stamp = is.1.0 i; text = is.1.1 i }) };
      items = record { rows = changed_rows rows changes; says = save.items_are; are = items_saved rows (changed_rows rows changes) changes last state.items are leads (λ p. refl) };
    })

-- an open file leaves what it has, and so the items that were read
pub opens_with : (v : View) (recovers : Trees → Type 0) (waiting : WaitingChanges) (state : StateView) (copy : Option FoundCopy) → IsStateFound copy state → (IsClean v → IsTrue v.is_open)
    → ((db : Trees) → IsTrue v.is_open → recovers db → db ≡ v.committed) → (IsClean v → IsTrue v.is_open → SaysItems v.committed (items_in v.committed waiting))
    → (IsClean v → IsTrue v.is_open → AreStatesTold initial_state state → AreRowsOf (items_in v.committed waiting) state.items) → OpensWith (CrashLeaves v recovers) (HasItemsOf v waiting state) copy
opens_with v recovers waiting state copy found is_open settled says are = record {
  state = state;
  found = found;
  items = λ told. record { last_is = refl; items = λ clean opened. are clean opened told };
  left = λ told db may.
      let opened = is_open may.clean in
      ∣ subst (λ (t : Trees). SaysItemsOf t state.items) (sym (settled db opened may.may)) (record { rows = items_in v.committed waiting; says = says may.clean opened; are = are may.clean opened told }) ∣₁;
}
