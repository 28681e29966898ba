-- A record gives back what a crash leaves.
use Rattle.std.proofs.Common.{◌≡◌, ℕ, Bool, true, false, List, [], ◌∷◌, ◌++◌, length, refl, ap, ◌∙◌, append_assoc, if◌then◌else◌}
use Rattle.std.specs.Prelude.{◌==◌}
use Rattle.std.proofs.lemmas.Bool.{eqb-true}
use Rattle.std.specs.Int.{w32}
use Rattle.wire.specs.Number.{num}
use Rattle.wire.specs.Field.{list_text}
use Rattle.decrees.specs.Record.{decree_text, decrees_text, start_text}
use Rattle.verifier.specs.State.{VerifierState}
use Rattle.verifier.specs.Record.{verifier_head_text, verifier_fields_text, record_text}
use Rattle.verifier.specs.Laws.{SavedIsRecord}

pub saved_is_record : SavedIsRecord
saved_is_record u id s begins log few counted = record { fresh = refl; spelled = refl; begins = begins; is_log = log; few = few; counted = counted }

chosen : (b : Bool) (x y list : List ℕ) → (if b then x else y) ++ list ≡ (if b then x ++ list else y ++ list)
chosen true x y list = refl
chosen false x y list = refl

-- the fields, the count of the decrees and their text, one behind the other
pub record_of_parts : (u id : ℕ) (s : VerifierState) (whole front text : List ℕ) → whole ≡ front ++ text → front ≡ verifier_fields_text u id s ++ num w32 (length s.log) → text ≡ decrees_text s.log → whole ≡ record_text u id s
record_of_parts u id s whole front text joined counted same =
    let count = num w32 (length s.log) in
    joined ∙ ap (λ (xs : List ℕ). xs ++ text) counted ∙ append_assoc (verifier_fields_text u id s) count text ∙ ap (λ (xs : List ℕ). verifier_fields_text u id s ++ (count ++ xs)) same
    ∙ chosen (s.start.place == 0) (1 ∷ 86 ∷ verifier_head_text u id s) (2 ∷ 86 ∷ (verifier_head_text u id s ++ start_text s.start)) (list_text decree_text s.log)

-- four texts behind another
pub four_behind : (w a b c d : List ℕ) → (((w ++ a) ++ b) ++ c) ++ d ≡ w ++ (((a ++ b) ++ c) ++ d)
four_behind w a b c d = simp append_assoc

pub fields_trimmed : (u id : ℕ) (s : VerifierState) → (s.start.place ≡ 0 → ⊥) → (whole : List ℕ) → ((whole ++ 2 ∷ 86 ∷ []) ++ verifier_head_text u id s) ++ start_text s.start ≡ whole ++ verifier_fields_text u id s
fields_trimmed u id s later whole = by (s.start.place == 0) refl
  where
    by : (b : Bool) → (s.start.place == 0) ≡ b → ((whole ++ 2 ∷ 86 ∷ []) ++ verifier_head_text u id s) ++ start_text s.start ≡ whole ++ (if b then 1 ∷ 86 ∷ verifier_head_text u id s else 2 ∷ 86 ∷ (verifier_head_text u id s ++ start_text s.start))
    by true e = absurd (later (eqb-true s.start.place 0 e))
    by false e = simp append_assoc
