-- The rows of a verifier's records.
use Rattle.std.proofs.Common.{◌≡◌, ℕ, ◌+◌, ◌<◌, ◌^◌, ◌⊎◌, Bool, true, false, not, List, [], ◌∷◌, ◌++◌, length, refl, inl, inr, sym, ap, ◌∙◌, IsTrue, nat_lt}
use Rattle.std.specs.Prelude.{◌==◌}
use Rattle.std.specs.Int.{w8, w64}
use Rattle.std.proofs.lemmas.Bool.{cond-false, and_parts, and_from, eqb-true, eq-eqb, ltb-true, lt-ltb}
use Rattle.wire.specs.Number.{num}
use Rattle.wire.specs.Record.{NoMark}
use Rattle.wire.specs.Field.{option_text, list_text}
use Rattle.decrees.specs.declared.decree.Decree.{Decree}
use Rattle.decrees.specs.declared.start.Start.{Start}
use Rattle.decrees.specs.Standing.{is_log_from}
use Rattle.decrees.specs.Start.{first_start, could_stand}
use Rattle.decrees.specs.Record.{decree_text, start_text}
use Rattle.verifier.specs.State.{VerifierState}
use Rattle.verifier.specs.Record.{accepted_text, whole_text, trimmed_text, IsRecord}
use Rattle.verifier.specs.Row.{Head, WholeRow, TrimmedRow, head_row_text, whole_row_text, trimmed_row_text, verifier_state_of, may_be_of, is_row_of}
use Rattle.verifier.proofs.RecordsApart.{Versioned, of_first, of_second, versioned, head_in, behind, whole_apart, trimmed_apart}

-- what is tested of a row, part by part
record Parts (u id : ℕ) (h : Head) (start : Start) (log : List Decree) : Type 0 where
  id_is : h.0.0.0 ≡ id
  u_is : h.0.0.1 ≡ u
  begins : could_stand start.place start.standing ≡ true
  is_log : is_log_from start.standing log ≡ true
  counted : (start.place + length log) + 1 < 2 ^ 64

parts_of : (u id : ℕ) (h : Head) (start : Start) (log : List Decree) → is_row_of u id h start log ≡ true → Parts u id h start log
parts_of u id h start log e =
    let a = and_parts (may_be_of u id h start (length log)) (is_log_from start.standing log) e in
    let b = and_parts (h.0.0.0 == id) _ a.0 in
    let c = and_parts (h.0.0.1 == u) _ b.1 in
    let d = and_parts (could_stand start.place start.standing) (nat_lt ((start.place + length log) + 1) (2 ^ 64)) c.1 in
    record {
      id_is = eqb-true h.0.0.0 id b.0;
      u_is = eqb-true h.0.0.1 u c.0;
      begins = d.0;
      is_log = a.1;
      counted = ltb-true ((start.place + length log) + 1) (2 ^ 64) d.1;
    }

-- the row of a record passes
passes : (u id : ℕ) (bytes : List ℕ) (s : VerifierState) → IsRecord u id bytes s → is_row_of u id (head_in u id s) s.start s.log ≡ true
passes u id bytes s r =
    and_from (may_be_of u id (head_in u id s) s.start (length s.log)) (is_log_from s.start.standing s.log)
    (and_from (id == id) _ (eq-eqb id id refl) (and_from (u == u) _ (eq-eqb u u refl)
    (and_from (could_stand s.start.place s.start.standing) _ r.begins (lt-ltb ((s.start.place + length s.log) + 1) (2 ^ 64) r.counted))))
    r.is_log

both_ways : (b : Bool) → b ≡ true → IsTrue (not b) → ⊥
both_ways true p q = cc q
both_ways false p q = cc p

head_same : (u id : ℕ) (h : Head) (start : Start) (log : List Decree) → Parts u id h start log → head_row_text h ≡ head_row_text (((id, u), h.0.1), h.1)
head_same u id h start log p = λ i. ((num w8 (p.id_is i) ++ num w8 (p.u_is i)) ++ num w64 h.0.1) ++ option_text accepted_text h.1

-- version 1
pub whole_is_record : (u id : ℕ) (bytes : List ℕ) (h : Head) (log : List Decree) → length log < 2 ^ 32 → bytes ≡ whole_row_text (h, log) → is_row_of u id h first_start log ≡ true → IsRecord u id (1 ∷ 86 ∷ bytes) (verifier_state_of h first_start log)
whole_is_record u id bytes h log few e row =
    let p = parts_of u id h first_start log row in
    record {
      fresh = refl;
      spelled = ap (λ (xs : List ℕ). 1 ∷ 86 ∷ xs) (e ∙ ap (λ (xs : List ℕ). xs ++ list_text decree_text log) (head_same u id h first_start log p));
      begins = p.begins;
      is_log = p.is_log;
      few = few;
      counted = p.counted;
    }

pub none_whole : (u id : ℕ) (bytes : List ℕ) → ((row : WholeRow) → length row.1 < 2 ^ 32 → bytes ≡ whole_row_text row → ⊥) → (s : VerifierState) → IsRecord u id (1 ∷ 86 ∷ bytes) s → ⊥
none_whole u id bytes none s r = by (versioned u id s r.begins)
  where
    by : Versioned u id s → ⊥
    by (of_first a e) = none (head_in u id s, s.log) r.few (behind 1 _ _ (r.spelled ∙ e))
    by (of_second z e) = let clash : ◌≡◌ {A = List ℕ} (1 ∷ 86 ∷ bytes) (trimmed_text u id s) = r.spelled ∙ e in cc clash

pub other_whole : (u id : ℕ) (bytes : List ℕ) (h : Head) (log : List Decree) → bytes ≡ whole_row_text (h, log) → IsTrue (not (is_row_of u id h first_start log)) → (s : VerifierState) → IsRecord u id (1 ∷ 86 ∷ bytes) s → ⊥
other_whole u id bytes h log here bad s r = by (versioned u id s r.begins)
  where
    by : Versioned u id s → ⊥
    by (of_first a e) =
        let both : ◌≡◌ {A = WholeRow} (h, log) (head_in u id s, s.log) = whole_apart (h, log) (head_in u id s, s.log) (sym here ∙ behind 1 _ _ (r.spelled ∙ e)) in
        let same : is_row_of u id h first_start log ≡ is_row_of u id (head_in u id s) s.start s.log = λ i. is_row_of u id (both i).0 (sym a i) (both i).1 in
        both_ways (is_row_of u id h first_start log) (same ∙ passes u id _ s r) bad
    by (of_second z e) = let clash : ◌≡◌ {A = List ℕ} (1 ∷ 86 ∷ bytes) (trimmed_text u id s) = r.spelled ∙ e in cc clash

-- version 2
pub trimmed_is_record : (u id : ℕ) (bytes : List ℕ) (h : Head) (start : Start) (log : List Decree) → (start.place == 0) ≡ false → length log < 2 ^ 32 → bytes ≡ trimmed_row_text ((h, start), log) → is_row_of u id h start log ≡ true
    → IsRecord u id (2 ∷ 86 ∷ bytes) (verifier_state_of h start log)
trimmed_is_record u id bytes h start log later few e row =
    let p = parts_of u id h start log row in
    let s = verifier_state_of h start log in
    record {
      fresh = refl;
      spelled =
          ap (λ (xs : List ℕ). 2 ∷ 86 ∷ xs) (e ∙ ap (λ (xs : List ℕ). (xs ++ start_text start) ++ list_text decree_text log) (head_same u id h start log p))
          ∙ sym (cond-false (start.place == 0) (whole_text u id s) (trimmed_text u id s) later);
      begins = p.begins;
      is_log = p.is_log;
      few = few;
      counted = p.counted;
    }

pub none_trimmed : (u id : ℕ) (bytes : List ℕ) → ((row : TrimmedRow) → length row.1 < 2 ^ 32 → bytes ≡ trimmed_row_text row → ⊥) → (s : VerifierState) → IsRecord u id (2 ∷ 86 ∷ bytes) s → ⊥
none_trimmed u id bytes none s r = by (versioned u id s r.begins)
  where
    by : Versioned u id s → ⊥
    by (of_first a e) = let clash : ◌≡◌ {A = List ℕ} (2 ∷ 86 ∷ bytes) (whole_text u id s) = r.spelled ∙ e in cc clash
    by (of_second z e) = none ((head_in u id s, s.start), s.log) r.few (behind 2 _ _ (r.spelled ∙ e))

clash_of : {b : Bool} → b ≡ true → b ≡ false → ⊥
clash_of t f = let z : true ≡ false = sym t ∙ f in cc z

pub zero_trimmed : (u id : ℕ) (bytes : List ℕ) (h : Head) (start : Start) (log : List Decree) → bytes ≡ trimmed_row_text ((h, start), log) → start.place ≡ 0 → (s : VerifierState) → IsRecord u id (2 ∷ 86 ∷ bytes) s → ⊥
zero_trimmed u id bytes h start log here zero_place s r = by (versioned u id s r.begins)
  where
    by : Versioned u id s → ⊥
    by (of_first a e) = let clash : ◌≡◌ {A = List ℕ} (2 ∷ 86 ∷ bytes) (whole_text u id s) = r.spelled ∙ e in cc clash
    by (of_second z e) =
        let both = trimmed_apart ((h, start), log) ((head_in u id s, s.start), s.log) (sym here ∙ behind 2 _ _ (r.spelled ∙ e)) in
        let place : start.place ≡ s.start.place = ap (λ (row : TrimmedRow). row.0.1.place) both in
        clash_of (eq-eqb s.start.place 0 (sym place ∙ zero_place)) z

pub other_trimmed : (u id : ℕ) (bytes : List ℕ) (h : Head) (start : Start) (log : List Decree) → bytes ≡ trimmed_row_text ((h, start), log) → IsTrue (not (is_row_of u id h start log)) → (s : VerifierState) → IsRecord u id (2 ∷ 86 ∷ bytes) s → ⊥
other_trimmed u id bytes h start log here bad s r = by (versioned u id s r.begins)
  where
    by : Versioned u id s → ⊥
    by (of_first a e) = let clash : ◌≡◌ {A = List ℕ} (2 ∷ 86 ∷ bytes) (whole_text u id s) = r.spelled ∙ e in cc clash
    by (of_second z e) =
        let both = trimmed_apart ((h, start), log) ((head_in u id s, s.start), s.log) (sym here ∙ behind 2 _ _ (r.spelled ∙ e)) in
        let same = ap (λ (row : TrimmedRow). is_row_of u id row.0.0 row.0.1 row.1) both in
        both_ways (is_row_of u id h start log) (same ∙ passes u id _ s r) bad

-- a record begins with one of the two versions, and the kind
record Begins (bytes : List ℕ) : Type 0 where
  version : ℕ
  rest : List ℕ
  known : (version ≡ 1) ⊎ (version ≡ 2)
  begin : bytes ≡ version ∷ 86 ∷ rest

begins_so : (u id : ℕ) (bytes : List ℕ) (s : VerifierState) → IsRecord u id bytes s → Begins bytes
begins_so u id bytes s r = by (versioned u id s r.begins)
  where
    by : Versioned u id s → Begins bytes
    by (of_first a e) = record { version = 1; rest = _; known = inl refl; begin = r.spelled ∙ e }
    by (of_second z e) = record { version = 2; rest = _; known = inr refl; begin = r.spelled ∙ e }

pub no_bytes : (u id : ℕ) (bytes : List ℕ) → bytes ≡ [] → (s : VerifierState) → IsRecord u id bytes s → ⊥
no_bytes u id bytes e s r =
    let b = begins_so u id bytes s r in
    let clash : ◌≡◌ {A = List ℕ} [] (b.version ∷ 86 ∷ b.rest) = sym e ∙ b.begin in
    cc clash

pub no_kind : (u id version : ℕ) (bytes rest : List ℕ) → bytes ≡ version ∷ rest → NoMark 86 rest → (s : VerifierState) → IsRecord u id bytes s → ⊥
no_kind u id version bytes rest e none s r =
    let b = begins_so u id bytes s r in
    let same : ◌≡◌ {A = List ℕ} (version ∷ rest) (b.version ∷ 86 ∷ b.rest) = sym e ∙ b.begin in
    none b.rest (cc same)

pub no_version : (u id version : ℕ) (bytes rest : List ℕ) → bytes ≡ version ∷ rest → (version ≡ 1 → ⊥) → (version ≡ 2 → ⊥) → (s : VerifierState) → IsRecord u id bytes s → ⊥
no_version u id version bytes rest e one two s r =
    let b = begins_so u id bytes s r in
    let same : ◌≡◌ {A = List ℕ} (version ∷ rest) (b.version ∷ 86 ∷ b.rest) = sym e ∙ b.begin in
    let first : version ≡ b.version = cc same in
    by b.version first b.known
  where
    by : (v : ℕ) → version ≡ v → (v ≡ 1) ⊎ (v ≡ 2) → ⊥
    by v first (inl x) = one (first ∙ x)
    by v first (inr x) = two (first ∙ x)
