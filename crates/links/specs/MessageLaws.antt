-- Laws of messages that come.
use Rattle.std.specs.Prelude.{◌≡◌, ◌≢◌, ℕ, List, Some, None, All, flat_map}
use Rattle.seals.specs.Laws.{AreFirstOf}
use Rattle.links.specs.declared.message_fault.MessageFault.TheVariants.{NoMemory}
use Rattle.links.specs.Numbered.{Numbered, IsBeginningOf}
use Rattle.links.specs.Message.{message_text, IsMessage}
use Rattle.links.specs.Pieces.{bytes_of_pieces}
use Rattle.links.specs.Reading.{MessageReaderView, HasReadMessages}

-- If the bytes that came are a beginning of those of the messages that were written, the messages that are read are a beginning of them.
abbrev pub ReadIsWritten : Type 0
ReadIsWritten =
    (most : ℕ) (all : List ℕ) (messages written : List Numbered) (r : MessageReaderView) → HasReadMessages most all messages r → All (IsMessage most) written
    → IsBeginningOf all (flat_map message_text written) → IsBeginningOf messages written

-- If all of their bytes came, all of them are read, and more may come.
abbrev pub WrittenIsRead : Type 0
WrittenIsRead =
    (most : ℕ) (all : List ℕ) (messages written : List Numbered) (r : MessageReaderView) → HasReadMessages most all messages r → All (IsMessage most) written
    → all ≡ flat_map message_text written → r.end ≢ Some NoMemory → (messages ≡ written) × (r.end ≡ None)

-- If the messages were sent in pieces, and the pieces that were taken are a beginning of those, the messages that are read of
-- them are a beginning of those that were written.
abbrev pub PiecesCarryMessages : Type 0
PiecesCarryMessages =
    (most : ℕ) (sent taken : List (List ℕ)) (messages written : List Numbered) (r : MessageReaderView) → bytes_of_pieces sent ≡ flat_map message_text written → AreFirstOf taken sent
    → HasReadMessages most (bytes_of_pieces taken) messages r → All (IsMessage most) written → IsBeginningOf messages written
