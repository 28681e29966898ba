-- The record of a verifier, and what it stands for.
use Rattle.std.specs.Prelude.{◌≡◌, ℕ, ◌+◌, ◌^◌, ◌<◌, ◌==◌, IsTrue, List, ◌∷◌, ◌++◌, length, if◌then◌else◌}
use Rattle.std.specs.Int.{w8, w64}
use Rattle.wire.specs.Number.{num}
use Rattle.wire.specs.Field.{option_text, list_text}
use Rattle.decrees.specs.declared.decree.Decree.{Decree}
use Rattle.decrees.specs.Standing.{is_log_from}
use Rattle.decrees.specs.Record.{decree_text, start_text}
use Rattle.decrees.specs.Start.{could_stand}
use Rattle.verifier.specs.State.{VerifierState, known, down}

abbrev pub accepted_text : ℕ × Decree → List ℕ
accepted_text a = num w64 a.0 ++ decree_text a.1

-- the verifier's number and how many may fail, its view and what it has accepted
abbrev pub verifier_head_text : ℕ → ℕ → VerifierState → List ℕ
verifier_head_text u id s = ((num w8 id ++ num w8 u) ++ num w64 s.view) ++ option_text accepted_text s.accepted

-- the version and the kind, and all that is before the decrees; version 1 is of a verifier that has forgotten none
abbrev pub verifier_fields_text : ℕ → ℕ → VerifierState → List ℕ
verifier_fields_text u id s = if s.start.place == 0 then 1 ∷ 86 ∷ verifier_head_text u id s else 2 ∷ 86 ∷ (verifier_head_text u id s ++ start_text s.start)

-- version 1, of a verifier that has forgotten no decree
abbrev pub whole_text : ℕ → ℕ → VerifierState → List ℕ
whole_text u id s = 1 ∷ 86 ∷ (verifier_head_text u id s ++ list_text decree_text s.log)

-- version 2, of any other
abbrev pub trimmed_text : ℕ → ℕ → VerifierState → List ℕ
trimmed_text u id s = 2 ∷ 86 ∷ ((verifier_head_text u id s ++ start_text s.start) ++ list_text decree_text s.log)

abbrev pub record_text : ℕ → ℕ → VerifierState → List ℕ
record_text u id s = if s.start.place == 0 then whole_text u id s else trimmed_text u id s

-- the bytes are the record of a verifier that is just up again with this state
pub record IsRecord (u id : ℕ) (bytes : List ℕ) (s : VerifierState) : Type 0 where
  pub fresh : s ≡ down s
  pub spelled : bytes ≡ record_text u id s
  pub begins : IsTrue (could_stand s.start.place s.start.standing)
  pub is_log : IsTrue (is_log_from s.start.standing s.log)
  pub few : length s.log < 2 ^ 32
  -- the place after what it knows has a number
  pub counted : known s + 1 < 2 ^ 64
