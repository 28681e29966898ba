-- What is read of what was written, and how long letters are.
use Rattle.std.specs.Prelude.{◌≡◌, ◌≤◌, ℕ, Bool, true, false, ◌⊎◌, List, length, Result, Ok, Err}
use Rattle.std.specs.List.{list_all}
use Rattle.base.specs.declared.fault.Fault.{Fault}
use Rattle.base.specs.declared.fault.Fault.TheVariants.{NoMemory}
use Rattle.wire.specs.Number.{is_byte}
use Rattle.wire.specs.Record.{Reads}
use Rattle.decrees.specs.declared.node.Letter.{Letter}
use Rattle.exec_lines.specs.declared.body.Body.{Body}
use Rattle.exec_lines.specs.declared.body.Body.TheVariants as body
use Rattle.letters.specs.declared.size.TheConstants.{MOST_BULK_BYTES}
use Rattle.letters.specs.Letter.{LetterFits, letter_text}
use Rattle.letters.specs.Size.{has_parcel, is_bulk_letter}

-- who reads the text of a letter as `read` does has that letter, or found no memory
abbrev pub ReadsWhatWasWritten : Type 0
ReadsWhatWasWritten = (letter : Letter Body) (answer : Result (Letter Body) Fault) → LetterFits letter → Reads LetterFits letter_text (letter_text letter) answer
    → (answer ≡ Ok letter) ⊎ (answer ≡ Err NoMemory)

-- the text is bytes, as all is that was written
abbrev pub IsOfBytes : List ℕ → Type 0
IsOfBytes text = list_all is_byte text ≡ true

-- a letter that has no parcel is within the limit
abbrev pub LettersAreBounded : Type 0
LettersAreBounded = (letter : Letter Body) → LetterFits letter → IsOfBytes (letter_text letter) → has_parcel letter.body ≡ false → length (letter_text letter) ≤ MOST_BULK_BYTES

-- a need, or what is said to come to a decree
abbrev pub is_short_kind : Body → Bool
is_short_kind (body.Need _) = true
is_short_kind (body.Ballot _) = true
is_short_kind _ = false

-- these are never bulk
abbrev pub ShortKindsAreQuick : Type 0
ShortKindsAreQuick = (letter : Letter Body) → LetterFits letter → IsOfBytes (letter_text letter) → is_short_kind letter.body ≡ true → is_bulk_letter letter ≡ false
