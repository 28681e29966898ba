-- A record has what a crash leaves, and is read as just that.
use Rattle.std.proofs.Common.{◌≡◌, ℕ, true, List, [], ◌∷◌, ◌++◌, Option, Some, None, slice_get, refl, sym, ◌∙◌, ap, subst, option_and_then}
use Rattle.std.proofs.lemmas.Bool.{and_parts, and_from}
use Rattle.decrees.specs.declared.decree.Decree.{Decree}
use Rattle.decrees.specs.declared.standing.Standing.{Standing}
use Rattle.decrees.specs.Standing.{first_standing, standing_after, may_follow, is_log_from, is_log}
use Rattle.verifier.specs.State.{VerifierState, down}
use Rattle.decrees.specs.declared.start.Start.{Start}
use Rattle.decrees.specs.Start.{stands_from, could_stand}
use Rattle.decrees.proofs.CouldStand.{logs_stand}
use Rattle.agreement_laws.specs.Letters.{Letters}
use Rattle.agreement_laws.specs.ChosenList.{chosen}
use Rattle.agreement_laws.specs.Machine.{VerifierSlot, New, Up, Stopped, Event, reached, letters_of}
use Rattle.agreement_laws.specs.Laws.{recorded, record_of, RecordsAreReadBack}
use Rattle.agreement_laws.proofs.Machine.{SlotOk, reached_ok}
use Rattle.agreement_laws.proofs.Places.{front_decrees}
use Rattle.agreement_laws.proofs.Letters.{LettersOk}
use Rattle.agreement_laws.proofs.Logs.{LogOk}
use Rattle.agreement_laws.proofs.Proved.{record_stands, chosen_listed, list_is_log}

-- a beginning of a log is a log
log_front : (s : Standing) (ds more : List Decree) → is_log_from s (ds ++ more) ≡ true → is_log_from s ds ≡ true
log_front s [] more h = refl
log_front s (d ∷ ds) more h =
    let p = and_parts (may_follow s d) (is_log_from (standing_after s d) (ds ++ more)) h in
    and_from (may_follow s d) (is_log_from (standing_after s d) ds) p.0 (log_front (standing_after s d) ds more p.1)

slot_fresh : (u : ℕ) (ls : Letters) (v : ℕ) (slot : VerifierSlot) (saved : VerifierState) → SlotOk u ls v slot → recorded slot ≡ Some saved → saved ≡ down saved
slot_fresh u ls v New saved st e = absurd (cc)
slot_fresh u ls v (Up s x) saved st e = let same : x ≡ saved = cc in subst (λ (z : VerifierState). z ≡ down z) same (st.1 ∙ ap down (sym st.1))
slot_fresh u ls v (Stopped x) saved st e = let same : x ≡ saved = cc in subst (λ (z : VerifierState). z ≡ down z) same st.1

pub record_fresh : (u : ℕ) (events : List Event) (v : ℕ) (saved : VerifierState) → record_of (reached u events).verifiers v ≡ Some saved → saved ≡ down saved
record_fresh u events v saved has = by (slice_get (reached u events).verifiers v) refl has
  where
    by : (o : Option VerifierSlot) → slice_get (reached u events).verifiers v ≡ o → option_and_then recorded o ≡ Some saved → saved ≡ down saved
    by None at e = absurd (cc)
    by (Some slot) at e = slot_fresh u (letters_of u events) v slot saved ((reached_ok u events).stands v slot at) e

-- the rest of a log is a log
log_back : (s : Standing) (ds more : List Decree) → is_log_from s (ds ++ more) ≡ true → is_log_from (stands_from s ds) more ≡ true
log_back s [] more h = h
log_back s (d ∷ ds) more h = log_back (standing_after s d) ds more (and_parts (may_follow s d) (is_log_from (standing_after s d) (ds ++ more)) h).1

-- what has its grounds in chosen decrees is a log, and begins at what could stand there
pub record BeginsWell (start : Start) (log : List Decree) : Type 0 where
  pub begins : could_stand start.place start.standing ≡ true
  pub is_log : is_log_from start.standing log ≡ true

pub begins_well : {u : ℕ} {ls : Letters} {start : Start} {log : List Decree} → LettersOk u ls → LogOk u ls start log → BeginsWell start log
begins_well {u} {ls} {start} {log} ok l =
    let f = front_decrees (l.before ++ log) (chosen u ls) (λ p d at. chosen_listed ok p d (l.all p d at)) in
    let whole : is_log ((l.before ++ log) ++ f.0) ≡ true = subst (λ (ds : List Decree). is_log ds ≡ true) f.1 (list_is_log ok) in
    let front : is_log (l.before ++ log) ≡ true = log_front first_standing (l.before ++ log) f.0 whole in
    let before : is_log l.before ≡ true = log_front first_standing l.before log front in
    record {
      begins = subst (λ (z : ℕ × Standing). could_stand z.0 z.1 ≡ true) (λ i. (l.placed i, l.stood i)) (logs_stand l.before before);
      is_log = subst (λ (s : Standing). is_log_from s log ≡ true) l.stood (log_back first_standing l.before log front);
    }

pub record_begins : (u : ℕ) (events : List Event) (v : ℕ) (saved : VerifierState) → record_of (reached u events).verifiers v ≡ Some saved → BeginsWell saved.start saved.log
record_begins u events v saved has = begins_well (reached_ok u events).letters (record_stands u events v saved has).grounds.log

pub records_are_read_back : RecordsAreReadBack
records_are_read_back u events v saved has =
    let fresh = record_fresh u events v saved has in
    let well = record_begins u events v saved has in
    record { fresh = fresh; read = λ few counted. record { fresh = fresh; spelled = refl; begins = well.begins; is_log = well.is_log; few = few; counted = counted } }
