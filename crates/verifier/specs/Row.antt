-- A record as rows of its fields, in either version.
use Rattle.std.specs.Prelude.{◌≡◌, ℕ, ◌+◌, ◌^◌, ◌<◌, ◌==◌, ◌&&◌, Bool, false, nat_lt, List, [], ◌++◌, length, Option, Result, Ok, Err}
use Rattle.std.specs.Int.{w8, w64}
use Rattle.base.specs.declared.fault.Fault.{Fault}
use Rattle.wire.specs.Number.{num}
use Rattle.wire.specs.Record.{Refused}
use Rattle.wire.specs.Field.{option_text, list_text}
use Rattle.decrees.specs.declared.decree.Decree.{Decree}
use Rattle.decrees.specs.declared.start.Start.{Start}
use Rattle.decrees.specs.Standing.{is_log_from}
use Rattle.decrees.specs.Start.{could_stand}
use Rattle.decrees.specs.Record.{decree_text, start_text}
use Rattle.verifier.specs.State.{VerifierState}
use Rattle.verifier.specs.Record.{accepted_text}

-- the verifier's number and how many may fail, its view and what it has accepted
abbrev pub Head : Type 0
Head = ((ℕ × ℕ) × ℕ) × Option (ℕ × Decree)

abbrev pub head_row_text : Head → List ℕ
head_row_text h = ((num w8 h.0.0.0 ++ num w8 h.0.0.1) ++ num w64 h.0.1) ++ option_text accepted_text h.1

-- of a verifier that has forgotten no decree
abbrev pub WholeRow : Type 0
WholeRow = Head × List Decree

abbrev pub whole_row_text : WholeRow → List ℕ
whole_row_text row = head_row_text row.0 ++ list_text decree_text row.1

-- of any other
abbrev pub TrimmedRow : Type 0
TrimmedRow = (Head × Start) × List Decree

abbrev pub trimmed_row_text : TrimmedRow → List ℕ
trimmed_row_text row = (head_row_text row.0.0 ++ start_text row.0.1) ++ list_text decree_text row.1

-- the row that is encoded by the bytes; else there is none
abbrev pub ReadsWhole : List ℕ → Result WholeRow Fault → Type 0
ReadsWhole bytes (Ok row) = (length row.1 < 2 ^ 32) × (bytes ≡ whole_row_text row)
ReadsWhole bytes (Err e) = Refused e ((row : WholeRow) → length row.1 < 2 ^ 32 → bytes ≡ whole_row_text row → ⊥)

abbrev pub ReadsTrimmed : List ℕ → Result TrimmedRow Fault → Type 0
ReadsTrimmed bytes (Ok row) = (length row.1 < 2 ^ 32) × (bytes ≡ trimmed_row_text row)
ReadsTrimmed bytes (Err e) = Refused e ((row : TrimmedRow) → length row.1 < 2 ^ 32 → bytes ≡ trimmed_row_text row → ⊥)

-- what a verifier is that is just up again with these
abbrev pub verifier_state_of : Head → Start → List Decree → VerifierState
verifier_state_of h start log = record { view = h.0.1; start = start; log = log; accepted = h.1; leads = false; proposed = false; doubt = false; promises = []; tally = []; votes = [] }

-- a record of the verifier may have these, with so many decrees
abbrev pub may_be_of : ℕ → ℕ → Head → Start → ℕ → Bool
may_be_of u id h start count = (h.0.0.0 == id) && ((h.0.0.1 == u) && (could_stand start.place start.standing && nat_lt ((start.place + count) + 1) (2 ^ 64)))

-- and with these decrees
abbrev pub is_row_of : ℕ → ℕ → Head → Start → List Decree → Bool
is_row_of u id h start log = may_be_of u id h start (length log) && is_log_from start.standing log
