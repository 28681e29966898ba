-- What a save leaves of the text of a service, and what is found of it.
use Rattle.std.proofs.Common.{◌≡◌, ◌∙◌, ℕ, List, [], ◌∷◌, Option, None, Some, Bool, true, false, IsTrue, refl, sym, ap, subst}
use Rattle.std.specs.Prelude.{IsSomeAnd}
use Rattle.std.specs.Int.{w64, cast_unsigned}
use Rattle.std.proofs.lemmas.Int.{of_z-to_z}
use mathlib.Core.Logic.{∥∥₁_map}
use Rattle.sqlite_value.specs.declared.value.Value.{Value}
use Rattle.sqlite_value.specs.declared.value.Value.TheVariants.{Null, Int, Real, Text, Blob}
use Rattle.sqlite_value.specs.Order.{Row, column}
use Rattle.sqlite_trees.specs.Tree.{Trees}
use Rattle.sqlite_trees.specs.View.{View, IsClean}
use Rattle.item_rows.specs.Changes.{Rows}
use Rattle.item_rows.specs.RowItems.{RowItems}
use Rattle.shelf.specs.declared.process.SavedProcess.{SavedProcess}
use Rattle.shelf.specs.declared.reply.ReplyChange.{ReplyChange}
use Rattle.shelf.specs.Rows.{process_rows}
use Rattle.shelf.specs.WaitingView.{IsAfterSave, process_after}
use Rattle.data_folder.specs.declared.found_copy.FoundCopy.{FoundCopy}
use Rattle.process_text.specs.declared.process_text.ProcessText.{ProcessText}
use Rattle.states.specs.State.{StateView}
use Rattle.process_parts.specs.Parts.{IsStoredOf}
use Rattle.ensemble.specs.Kept.{ProcessView}
use Rattle.service.specs.Record.{RecordView}
use Rattle.data_folder.specs.Text.{IsServiceText, TellsService, service_text}
use Rattle.data_folder.specs.Items.{TellsState}
use Rattle.data_folder.specs.Found.{SavedText, StampFits, RowFits, SavesText, IsCopyOf, text_of_row, HoldsText, HoldsSomeText, HasCopy, MayFind, FindsCopy}

abbrev blob_in : Value → List ℕ
blob_in Null = []
blob_in (Int n) = []
blob_in (Real x) = []
blob_in (Text t) = []
blob_in (Blob b) = b

abbrev number_in : Value → ℕ
number_in Null = 0
number_in (Int n) = cast_unsigned w64 n
number_in (Real x) = 0
number_in (Text t) = 0
number_in (Blob b) = 0

-- what the rows of a process have of it
abbrev text_in_rows : List Row → Option SavedText
text_in_rows [] = None
text_in_rows (row ∷ rows) = Some (record { stamp = record { start = number_in (column row 2); save = number_in (column row 3) }; text = blob_in (column row 7) })

text_is : (saved : Option SavedProcess) → RowFits saved → text_in_rows (process_rows saved) ≡ text_of_row saved
text_is None fits = refl
text_is (Some saved) fits = λ i. Some (record { stamp = record { start = of_z-to_z w64 saved.stamp.start fits.0 i; save = of_z-to_z w64 saved.stamp.save fits.1 i }; text = saved.text })

-- rows have one text
found_is : (db : Trees) (found : Option SavedText) → HoldsText db found → found ≡ text_in_rows (db 2)
found_is db found h = sym (ap text_in_rows h.row ∙ (text_is h.saved h.fits ∙ h.is))

one_text : (db : Trees) (found other : Option SavedText) → HoldsText db found → HoldsText db other → found ≡ other
one_text db found other h k = found_is db found h ∙ sym (found_is db other k)

abbrev pub fits_in : (s : SavedText) (saved : SavedProcess) → SavesText s saved → StampFits saved.stamp
fits_in s saved is = subst StampFits (sym is.1.0) is.0

-- what a save leaves has the text of the save
pub text_after : (old new : Trees) (items : Rows Row) (changes : List RowItems) (process : Option SavedProcess) (replies : List ReplyChange) (s : SavedText)
    → IsSomeAnd process (SavesText s) → IsAfterSave old items changes process replies new → HoldsSomeText old → (found : Option SavedText) → HoldsText new found → ∥ (found ≡ Some s) ∥₁
text_after old new items changes None replies s is save kept found has = absurd is
text_after old new items changes (Some saved) replies s is save kept found has =
    ∥∥₁_map kept (λ was. found_is new found has
    ∙ (ap text_in_rows (save.process_is was.1.saved was.1.row)
    ∙ (text_is (Some saved) (fits_in s saved is) ∙ (λ i. Some (record { stamp = is.1.0 i; text = is.1.1 i })))))

after_fits : (process was : Option SavedProcess) → RowFits process → RowFits was → RowFits (process_after process was)
after_fits None was fits before = before
after_fits (Some saved) was fits before = fits

-- and has some text
pub some_text_after : (old new : Trees) (items : Rows Row) (changes : List RowItems) (process : Option SavedProcess) (replies : List ReplyChange)
    → RowFits process → IsAfterSave old items changes process replies new → HoldsSomeText old → HoldsSomeText new
some_text_after old new items changes process replies fits save kept =
    ∥∥₁_map kept (λ was. (text_of_row (process_after process was.1.saved), record { saved = process_after process was.1.saved; fits = after_fits process was.1.saved fits was.1.fits; row = save.process_is was.1.saved was.1.row; is = refl }))

-- a row that is of a save fits
pub row_fits : (s : SavedText) (process : Option SavedProcess) → IsSomeAnd process (SavesText s) → RowFits process
row_fits s None is = absurd is
row_fits s (Some saved) is = fits_in s saved is

-- what is found has some text
pub some_text_found : (db : Trees) (copy : Option FoundCopy) → HasCopy db copy → HoldsSomeText db
some_text_found db None has = ∣ (None, has) ∣₁
some_text_found db (Some copy) has = ∣ (Some (record { stamp = copy.stamp; text = has.text }), has.has) ∣₁

-- the copy of a process of this text
pub copy_of_text : (db : Trees) (saved : SavedProcess) (copy : Option FoundCopy) → db 2 ≡ process_rows (Some saved) → IsSomeAnd copy (λ found. IsCopyOf saved found) → HasCopy db copy
copy_of_text db saved None row is = absurd is
copy_of_text db saved (Some copy) row is = record {
  text = saved.text;
  has = record { saved = Some saved; fits = is.fits; row = row; is = λ i. Some (record { stamp = sym is.stamp i; text = saved.text }) };
  is = is.is;
}

-- no copy, if there is no row of a process
pub nothing_found : (db : Trees) (copy : Option FoundCopy) → copy ≡ None → db 2 ≡ [] → HasCopy db copy
nothing_found db copy none row = subst (HasCopy db) (sym none) (record { saved = None; fits = tt; row = row; is = refl })

-- an open file has what was read in it, and nothing else
pub finds_copy : (v : View) (recovers : Trees → Type 0) (copy : Option FoundCopy) → (IsClean v → IsTrue v.is_open)
    → ((db : Trees) → IsTrue v.is_open → recovers db → db ≡ v.committed) → (IsClean v → IsTrue v.is_open → HasCopy v.committed copy) → FindsCopy (MayFind v recovers) copy
finds_copy v recovers None is_open settled has found may =
    let opened = is_open may.clean in
    ∣ one_text v.committed found None (subst (λ (db : Trees). HoldsText db found) (settled may.db opened may.may) may.has) (has may.clean opened) ∣₁
finds_copy v recovers (Some copy) is_open settled has found may =
    let opened = is_open may.clean in
    let here = has may.clean opened in
    ∣ record {
      text = here.text;
      is = here.is;
      found_is = one_text v.committed found (Some (record { stamp = copy.stamp; text = here.text })) (subst (λ (db : Trees). HoldsText db found) (settled may.db opened may.may) may.has) here.has;
    } ∣₁

-- what is not shut is open
pub open_if : (shut is_open : Bool) → (is_open ≡ false → IsTrue shut) → shut ≡ false → IsTrue is_open
open_if shut true h e = refl
open_if shut false h e = absurd (let both : true ≡ false = sym (h refl) ∙ e in cc both)

-- the text of the parts of a record is one of it
abbrev text_of_parts : (r : RecordView) (process : ProcessText) (state : StateView) (replicas : ProcessView) (next : ℕ) (text : List ℕ) → replicas ≡ r.replicas → next ≡ r.next
    → IsStoredOf process state replicas → text ≡ service_text process next → IsServiceText r text
text_of_parts r process state replicas next text are is stored same =
    record { process = process; state = state; stored = subst (λ (p : ProcessView). IsStoredOf process state p) are stored; is = subst (λ (n : ℕ). text ≡ service_text process n) is same }

pub tells_of : (r : RecordView) (process : ProcessText) (state : StateView) (replicas : ProcessView) (next : ℕ) (text : List ℕ) → replicas ≡ r.replicas → next ≡ r.next
    → IsStoredOf process state replicas → text ≡ service_text process next → TellsService r text
tells_of r process state replicas next text are is stored same = ∣ text_of_parts r process state replicas next text are is stored same ∣₁

-- with this state, which is shared
pub tells_state : (r : RecordView) (process : ProcessText) (state : StateView) (replicas : ProcessView) (next : ℕ) (text : List ℕ) (shared : StateView) → replicas ≡ r.replicas → next ≡ r.next
    → IsStoredOf process state replicas → text ≡ service_text process next → shared ≡ state → TellsState r text shared
tells_state r process state replicas next text shared are is stored same share = ∣ record { text = text_of_parts r process state replicas next text are is stored same; same = sym share } ∣₁
