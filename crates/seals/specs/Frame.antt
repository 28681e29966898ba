-- A piece as it is sent, and bytes that begin with no such piece.
use Rattle.std.specs.Prelude.{◌≡◌, ◌≢◌, ⊤, ℕ, ◌+◌, ◌^◌, ◌<◌, ◌≤◌, List, [], ◌∷◌, ◌++◌, length, take}
use Rattle.std.specs.Int.{w32, w64, from_be_bytes, to_be_bytes}
use Rattle.mac.specs.Hmac.{hmac_sha256}
use Rattle.seals.specs.declared.fault.SealFault.{SealFault}
use Rattle.seals.specs.declared.fault.SealFault.TheVariants.{TooLong, WrongTag, Stopped, NoMemory}
use Rattle.seals.specs.declared.frame.TheConstants.{MOST_PIECE_BYTES, LENGTH_BYTES, TAG_BYTES}

-- a piece behind its length in four bytes, the highest first
unfoldable pub with_length : List ℕ → List ℕ
with_length piece = to_be_bytes w32 (length piece) ++ piece

-- the tag behind these bytes: the first 16 bytes of the HMAC of a number in eight bytes, the highest first, and of them
unfoldable pub tag_behind : List ℕ → ℕ → List ℕ → List ℕ
tag_behind key number counted = take TAG_BYTES (hmac_sha256 key (to_be_bytes w64 number ++ counted))

-- the bytes that are sent of the piece of this number: its length, itself, and the tag of its number, its length and itself
abbrev pub frame : List ℕ → ℕ → List ℕ → List ℕ
frame key number piece = with_length piece ++ tag_behind key number (with_length piece)

-- the bytes that are sent of these pieces, numbered from this one on
abbrev pub frames : List ℕ → ℕ → List (List ℕ) → List ℕ
frames key number [] = []
frames key number (piece ∷ pieces) = frame key number piece ++ frames key (number + 1) pieces

-- the length that bytes begin with
unfoldable pub said_length : List ℕ → ℕ
said_length bytes = from_be_bytes w32 (take LENGTH_BYTES bytes)

-- Bytes of a frame that is not whole. If its length is there it is within the limit, and other bytes are missing.
abbrev pub IsPartOfFrame : List ℕ → Type 0
IsPartOfFrame bytes = LENGTH_BYTES ≤ length bytes → (said_length bytes ≤ MOST_PIECE_BYTES) × (length bytes < LENGTH_BYTES + said_length bytes + TAG_BYTES)

-- as many bytes as a frame has that begins with their length, which is within the limit
pub record HasWholeFrame (bytes : List ℕ) : Type 0 where
  pub there : LENGTH_BYTES ≤ length bytes
  pub within : said_length bytes ≤ MOST_PIECE_BYTES
  pub whole : length bytes ≡ LENGTH_BYTES + said_length bytes + TAG_BYTES

-- their length is there, and above the limit
abbrev pub HasLongPiece : List ℕ → Type 0
HasLongPiece bytes = (LENGTH_BYTES ≤ length bytes) × (MOST_PIECE_BYTES < said_length bytes)

-- a piece is there, and behind it another tag than its own
pub record HasWrongTag (key : List ℕ) (number : ℕ) (bytes : List ℕ) : Type 0 where
  pub piece : List ℕ
  pub tag : List ℕ
  pub after : List ℕ
  pub split : bytes ≡ with_length piece ++ (tag ++ after)
  pub within : length piece ≤ MOST_PIECE_BYTES
  pub whole : length tag ≡ TAG_BYTES
  pub other : tag ≢ tag_behind key number (with_length piece)

-- why no piece of this number is taken of bytes that come after the frames of those before, whatever comes behind them
abbrev pub IsEndFor : SealFault → List ℕ → ℕ → List ℕ → Type 0
IsEndFor TooLong key number bytes = HasLongPiece bytes
IsEndFor WrongTag key number bytes = HasWrongTag key number bytes
IsEndFor Stopped key number bytes = 2 ^ 64 ≤ number + 1
IsEndFor NoMemory key number bytes = ⊤
