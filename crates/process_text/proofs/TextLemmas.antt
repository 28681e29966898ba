-- The lists of a process fit their counts, and its proxies are numbered.
use Rattle.std.proofs.Common.{◌≡◌, ℕ, suc, ◌<◌, ◌≤◌, ◌+◌, ◌^◌, ◌∙◌, ◌∷◌, ◌++◌, true, false, List, length, take, Some, Result, Ok, Err, refl, ap, sym, subst, arith, inl, inr, append_assoc}
use Rattle.std.specs.Prelude.{slice_get}
use Rattle.std.proofs.lemmas.Bool.{cases_lt}
use Rattle.std.proofs.lemmas.Option.{same_Some, slice_get_within}
use Rattle.std.specs.Int.{w64}
use Rattle.std.specs.Str.{bytes_eq}
use Rattle.std.proofs.lemmas.List.{length-append, take-append-le, take_all}
use Rattle.std.proofs.lemmas.Slice.Eq.{bytes_eq-Decides}
use Rattle.base.specs.declared.fault.Fault.{Fault}
use Rattle.sessions.specs.Fresh.{Replies}
use Rattle.wire.specs.Record.{Always, IsPrefixFree, NoMark, NoPrefix, Refused, Puts, Reads}
use Rattle.wire.specs.Number.{num}
use Rattle.wire.specs.NumberLaws.{num_prefix_free, wide64}
use Rattle.wire.specs.FrontLaws.{tail_of}
use Rattle.wire.specs.RowLaws.{followed}
use Rattle.wire.specs.Session.{sessions_text}
use Rattle.wire.specs.SessionLaws.{sessions_prefix_free}
use Rattle.wire.specs.Field.{ListFits}
use Rattle.wire.proofs.Values.{Refused-weaker}
use Rattle.wire.proofs.Rows.{unfit}
use Rattle.states.specs.declared.head.Head.{Head}
use Rattle.states.specs.State.{StateView, IsState}
use Rattle.states.specs.StateRecord.{head_of_state, head_text, state_text}
use Rattle.states.specs.HeadProofs.{head_prefix_free}
use Rattle.process_text.specs.declared.executor_row.ExecutorRow.{ExecutorRow}
use Rattle.process_text.specs.declared.verifier_row.VerifierRow.{VerifierRow}
use Rattle.process_text.specs.Rows.{long_text}
use Rattle.process_text.specs.TextLaws.{process_prefix_free}
use Rattle.process_text.specs.StateOf.{IsStateOf, front_text, stored_items_text}
use Rattle.process_text.specs.declared.proxy_row.ProxyRow.{ProxyRow}
use Rattle.process_text.specs.declared.process_text.ProcessText.{ProcessText}
use Rattle.process_text.specs.Text.{IsProcessText, AreNumberedRows, process_fields_text, process_text}

-- values of which nothing is asked
any_fit : {X : Type 0} (xs : List X) → length xs < 2 ^ 32 → ListFits Always xs
any_fit xs few = record { count = few; each = λ k d low. tt }

pub executors_fit : (t : ProcessText) → IsProcessText t → ListFits Always t.executors
executors_fit t p = any_fit t.executors (omega (arith, p.few, p.executors))

pub verifiers_fit : (t : ProcessText) → IsProcessText t → ListFits Always t.verifiers
verifiers_fit t p = any_fit t.verifiers (omega (arith, p.few, p.verifiers))

pub proxies_fit : (t : ProcessText) → IsProcessText t → ListFits Always t.proxies
proxies_fit t p = any_fit t.proxies (omega (arith, p.clients))

-- the first rows are those of clients 1, 2 and so on
abbrev pub AreNumberedTo : List ProxyRow → ℕ → Type 0
AreNumberedTo rows n = (i : ℕ) (row : ProxyRow) → i < n → slice_get rows i ≡ Some row → row.client ≡ suc i

pub one_more_numbered : (rows : List ProxyRow) (n : ℕ) (x : ProxyRow) → AreNumberedTo rows n → slice_get rows n ≡ Some x → x.client ≡ n + 1 → AreNumberedTo rows (n + 1)
one_more_numbered rows n x before found same i row low e =
    elim (cases_lt i n) [
      | inl below ↦ before i row below e
      | inr from ↦
          let is : i ≡ n = omega arith in
          let one : Some row ≡ Some x = sym e ∙ (ap (slice_get rows) is ∙ found) in
          let client : row.client ≡ x.client = ap (λ (r : ProxyRow). r.client) (same_Some row x one) in
          omega (arith, client, same, is)
    ]

pub all_numbered : (rows : List ProxyRow) (n : ℕ) → length rows ≤ n → AreNumberedTo rows n → AreNumberedRows rows
all_numbered rows n most numbered i row e =
    let within = slice_get_within rows i row e in
    numbered i row (omega arith) e

-- fewer bytes are left than the length that was read
pub long_cut_off : (size : ℕ) (bytes rest : List ℕ) → bytes ≡ num w64 size ++ rest → length rest < size → NoPrefix Always long_text bytes
long_cut_off size bytes rest e short = record {
  none = λ text after f same.
      let len = (num_prefix_free w64 wide64).apart size (length text) rest (text ++ after) (sym e ∙ (same ∙ append_assoc (num w64 (length text)) text after)) in
      let total : length rest ≡ length text + length after = ap length len.1 ∙ length-append text after in
      omega (arith, short, len.0, total);
}

-- one text put after another
pub two_put : {S : Type 0} (holds : S → List ℕ → Type 0) (first second : List ℕ) (old between new : S) → Puts holds first old between → Puts holds second between new → Puts holds (first ++ second) old new
two_put holds first second old between new a b = λ m held. subst (holds new) (append_assoc m first second) (b (m ++ first) (a m held))

-- the fields of a process as a row
abbrev pub FieldsRow : Type 0
FieldsRow = ((((ℕ × Head) × Replies) × List ExecutorRow) × List VerifierRow) × List ProxyRow

abbrev pub row_of : ProcessText → FieldsRow
row_of t = (((((t.u, t.head), t.sessions), t.executors), t.verifiers), t.proxies)

-- no row of fields, so no process behind the marks
pub no_fields : (of : FieldsRow → Type 0) (row : FieldsRow → List ℕ) (bytes : List ℕ) → ((t : ProcessText) → IsProcessText t → of (row_of t)) → ((t : ProcessText) → process_fields_text t ≡ row (row_of t)) → (e : Fault)
    → Refused e (NoPrefix of row bytes) → Refused e (NoPrefix IsProcessText process_text (1 ∷ 80 ∷ bytes))
unfolding process_text
no_fields of row bytes fit same e = Refused-weaker e (λ (none : NoPrefix of row bytes). record {
  none = λ v rest f here.
      none.none (row_of v) rest (fit v f) (tail_of 80 80 bytes (process_fields_text v ++ rest) (tail_of 1 1 (80 ∷ bytes) (80 ∷ (process_fields_text v ++ rest)) here) ∙ ap (λ (t : List ℕ). t ++ rest) (same v));
})

-- the head and the sessions of a state, which its text begins with
front_free : IsPrefixFree {X = Head × Replies} (λ p. head_text p.0 ++ sessions_text p.1)
front_free = followed head_prefix_free sessions_prefix_free

state_parts : (s : StateView) → state_text s ≡ (head_text (head_of_state s) ++ sessions_text s.sessions) ++ stored_items_text s
unfolding state_text
state_parts s = refl

pub reads_of : (t : ProcessText) (bytes rest : List ℕ) → bytes ≡ front_text t ++ rest → (r : Result StateView Fault) → Reads IsState state_text bytes r → Reads (IsStateOf t) state_text bytes r
reads_of t bytes rest begins (Ok s) h =
    let both = front_free.apart (head_of_state s, s.sessions) (t.head, t.sessions) (stored_items_text s) rest (sym (state_parts s) ∙ (sym h.1 ∙ begins)) in
    (record { state = h.0; head = ap (λ (p : Head × Replies). p.0) both.0; sessions = ap (λ (p : Head × Replies). p.1) both.0 }, h.1)
reads_of t bytes rest begins (Err e) h = Refused-weaker e (λ (none : (v : StateView) → IsState v → bytes ≡ state_text v → ⊥) v f same. none v f.state same) h

-- bytes that do not begin with the front are the text of no such state
pub no_state_of : (t : ProcessText) (bytes front : List ℕ) → front ≡ front_text t → bytes_eq (take (length front) bytes) front ≡ false → (s : StateView) → IsStateOf t s → bytes ≡ state_text s → ⊥
no_state_of t bytes front is other s f same =
    let begins : state_text s ≡ front ++ stored_items_text s = state_parts s ∙ ((λ i. (head_text (f.head i) ++ sessions_text (f.sessions i)) ++ stored_items_text s) ∙ ap (λ (x : List ℕ). x ++ stored_items_text s) (sym is)) in
    let whole : bytes ≡ front ++ stored_items_text s = same ∙ begins in
    let head : take (length front) bytes ≡ front = ap (take (length front)) whole ∙ (take-append-le (length front) front (stored_items_text s) (omega arith) ∙ take_all (length front) front (omega arith)) in
    let clash : true ≡ false = sym ((bytes_eq-Decides (take (length front) bytes) front).1 head) ∙ other in
    cc clash

-- bytes without the marks are the text of no process
pub no_version : (bytes : List ℕ) → NoMark 1 bytes → NoPrefix IsProcessText process_text bytes
unfolding process_text
no_version bytes none = record { none = λ v rest f here. none (80 ∷ (process_fields_text v ++ rest)) here }

pub no_kind : (bytes after : List ℕ) → bytes ≡ 1 ∷ after → NoMark 80 after → NoPrefix IsProcessText process_text bytes
unfolding process_text
no_kind bytes after begin none = record {
  none = λ v rest f here. none (process_fields_text v ++ rest) (tail_of 1 1 after (80 ∷ (process_fields_text v ++ rest)) (sym begin ∙ here));
}

-- what was read is the text of a process, or of none
pub is_text : (bytes rest : List ℕ) (t : ProcessText) → bytes ≡ process_fields_text t ++ rest → 1 ∷ 80 ∷ bytes ≡ process_text t ++ rest
unfolding process_text
is_text bytes rest t e = ap (λ (x : List ℕ). 1 ∷ 80 ∷ x) e

pub no_text : (bytes rest : List ℕ) (t : ProcessText) → bytes ≡ process_fields_text t ++ rest → (IsProcessText t → ⊥) → NoPrefix IsProcessText process_text (1 ∷ 80 ∷ bytes)
no_text bytes rest t e wrong = unfit IsProcessText process_prefix_free (1 ∷ 80 ∷ bytes) t rest (is_text bytes rest t e) wrong
