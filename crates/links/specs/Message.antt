-- A message as bytes, and bytes that begin with no message.
use Rattle.std.specs.Prelude.{⊤, ℕ, ◌+◌, ◌^◌, ◌<◌, ◌≤◌, List, ◌++◌, length, take, drop}
use Rattle.std.specs.Int.{w32, w64, from_be_bytes, to_be_bytes}
use Rattle.links.specs.declared.message_fault.MessageFault.{MessageFault}
use Rattle.links.specs.declared.message_fault.MessageFault.TheVariants.{TooLong, NoMemory}
use Rattle.links.specs.declared.message.TheConstants.{NUMBER_BYTES, SIZE_BYTES, HEADER_BYTES}
use Rattle.links.specs.Numbered.{Numbered}

-- the number in eight bytes, the length of the text in four, the highest byte of each first, and the text
unfoldable pub message_text : Numbered → List ℕ
message_text m = to_be_bytes w64 m.0 ++ (to_be_bytes w32 (length m.1) ++ m.1)

-- the number that bytes begin with
unfoldable pub said_number : List ℕ → ℕ
said_number bytes = from_be_bytes w64 (take NUMBER_BYTES bytes)

-- the length of the text that comes, as bytes say behind a number
unfoldable pub said_size : List ℕ → ℕ
said_size bytes = from_be_bytes w32 (take SIZE_BYTES (drop NUMBER_BYTES bytes))

-- a message whose text has at most so many bytes
pub record IsMessage (most : ℕ) (m : Numbered) : Type 0 where
  pub number : m.0 < 2 ^ 64
  pub within : length m.1 ≤ most
  pub sized : length m.1 < 2 ^ 32

-- Bytes of a message that is not whole. If its header is there, its text is within the limit, and bytes of it are missing.
abbrev pub IsPartOfMessage : ℕ → List ℕ → Type 0
IsPartOfMessage most bytes = HEADER_BYTES ≤ length bytes → (said_size bytes ≤ most) × (length bytes < HEADER_BYTES + said_size bytes)

-- a header is there, and the text that it says is above the limit
abbrev pub HasLongText : ℕ → List ℕ → Type 0
HasLongText most bytes = (HEADER_BYTES ≤ length bytes) × (most < said_size bytes)

-- why no message is read of bytes that come after others, whatever comes behind them
abbrev pub EndsReading : MessageFault → ℕ → List ℕ → Type 0
EndsReading TooLong most bytes = HasLongText most bytes
EndsReading NoMemory most bytes = ⊤
