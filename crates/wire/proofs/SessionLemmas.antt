-- Sessions that bytes do not encode.
use Rattle.std.proofs.Common.{◌≡◌, ℕ, List, ◌∷◌, ◌++◌, true, false, refl, sym, ◌∙◌, ap}
use Rattle.std.specs.Prelude.{nat_le}
use Rattle.std.specs.List.{list_all}
use Rattle.std.specs.Ordering.{nat_cmp}
use Rattle.std.specs.FinMap.{FinMap, entries, is_sorted, entries_sorted}
use Rattle.std.proofs.lemmas.Bool.{leb-true, le-leb}
use Rattle.base.proofs.MapLemmas.{from_t}
use Rattle.base.specs.declared.fault.Fault.{Fault}
use Rattle.sessions.specs.declared.sessions.LastReply.{LastReply}
use Rattle.wire.specs.Record.{NoPrefix, Refused}
use Rattle.wire.specs.Field.{list_text, ListFits}
use Rattle.sessions.specs.Limits.{KeptFits, SessionFits}
use Rattle.wire.specs.Session.{session_text, sessions_text, SessionsFit}
use Rattle.wire.specs.FrontLaws.{tail_of}
use Rattle.wire.specs.FieldLaws.{list_prefix_free}
use Rattle.wire.specs.SessionLaws.{session_prefix_free}
use Rattle.wire.proofs.Rows.{no_marked_row}
use Rattle.wire.proofs.Sorting.{list_all_of, all_listed}

-- what the reader of a pair asks
abbrev pub PairFits : ℕ × LastReply → Type 0
PairFits session = Unit {0} × KeptFits session.1

pub no_sessions : (bytes after : List ℕ) → bytes ≡ 3 ∷ after → (e : Fault) → Refused e (NoPrefix (ListFits PairFits) (list_text session_text) after) → Refused e (NoPrefix SessionsFit sessions_text bytes)
unfolding sessions_text
no_sessions bytes after begin e = no_marked_row SessionsFit sessions_text (ListFits PairFits) (list_text session_text) entries 3 bytes after begin
    (λ s f. record { count = f.count; each = λ k d lt. (tt, (f.each k d lt).kept) }) (λ s. refl) e

wrong_sessions : (bytes after : List ℕ) (listed : List (ℕ × LastReply)) (rest : List ℕ) → bytes ≡ 3 ∷ after → after ≡ list_text session_text listed ++ rest
    → ((s : FinMap nat_cmp LastReply) → entries s ≡ listed → SessionsFit s → ⊥) → NoPrefix SessionsFit sessions_text bytes
unfolding sessions_text
wrong_sessions bytes after listed rest begin parts wrong = record {
  none = λ s others f here.
      let tail = tail_of 3 3 after (list_text session_text (entries s) ++ others) (sym begin ∙ here) in
      let both = (list_prefix_free session_text session_prefix_free).apart listed (entries s) rest others (sym parts ∙ tail) in
      wrong s (sym both.0) f;
}

pub not_rising : (bytes after : List ℕ) (listed : List (ℕ × LastReply)) (rest : List ℕ) → bytes ≡ 3 ∷ after → after ≡ list_text session_text listed ++ rest
    → is_sorted nat_cmp listed ≡ false → NoPrefix SessionsFit sessions_text bytes
not_rising bytes after listed rest begin parts not = wrong_sessions bytes after listed rest begin parts (λ s e f.
    let sorted : is_sorted nat_cmp (entries s) ≡ true = from_t _ (entries_sorted s) in
    let clash : true ≡ false = sym sorted ∙ (ap (is_sorted nat_cmp) e ∙ not) in
    absurd (cc clash))

pub not_clients : (bytes after : List ℕ) (listed : List (ℕ × LastReply)) (rest : List ℕ) → bytes ≡ 3 ∷ after → after ≡ list_text session_text listed ++ rest
    → list_all (λ (e : ℕ × LastReply). nat_le 1 e.0) listed ≡ false → NoPrefix SessionsFit sessions_text bytes
not_clients bytes after listed rest begin parts not = wrong_sessions bytes after listed rest begin parts (λ s e f.
    let each : list_all (λ (e : ℕ × LastReply). nat_le 1 e.0) (entries s) ≡ true = all_listed (λ (e : ℕ × LastReply). nat_le 1 e.0) (entries s) (λ k d lt. le-leb _ _ (f.each k d lt).client) in
    let clash : true ≡ false = sym each ∙ (ap (list_all (λ (e : ℕ × LastReply). nat_le 1 e.0)) e ∙ not) in
    absurd (cc clash))

pub are_sessions : (listed : List (ℕ × LastReply)) → ListFits PairFits listed → list_all (λ (e : ℕ × LastReply). nat_le 1 e.0) listed ≡ true → ListFits SessionFits listed
are_sessions listed fit clients = record {
  count = fit.count;
  each = λ k d lt. record { client = leb-true _ _ (list_all_of (λ (e : ℕ × LastReply). nat_le 1 e.0) listed clients k d lt); kept = (fit.each k d lt).1 };
}
