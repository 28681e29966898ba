-- Laws of pieces that come.
use Rattle.std.specs.Prelude.{◌≡◌, ◌≢◌, ℕ, ◌+◌, ◌^◌, ◌<◌, ◌≤◌, List, ◌++◌, length, Some, None, All, slice_get}
use Rattle.std.specs.Int.{w64, to_be_bytes}
use Rattle.seals.specs.declared.fault.SealFault.TheVariants.{NoMemory}
use Rattle.seals.specs.declared.frame.TheConstants.{MOST_PIECE_BYTES}
use Rattle.seals.specs.Frame.{with_length, frame, frames}
use Rattle.seals.specs.Keys.{handshake_text}
use Rattle.seals.specs.Opening.{OpenerView, HasOpened}

-- the others begin with these
abbrev pub AreFirstOf : List (List ℕ) → List (List ℕ) → Type 0
AreFirstOf pieces others = (later : List (List ℕ)) × (others ≡ pieces ++ later)

-- it did not end for want of memory
abbrev pub HadMemory : OpenerView → Type 0
HadMemory o = o.end ≢ Some NoMemory

-- If the same bytes came to two openers of one key, what one took is a beginning of what the other took that had memory.
abbrev pub TakenIsTold : Type 0
TakenIsTold =
    (key all : List ℕ) (pieces others : List (List ℕ)) (o p : OpenerView) → HasOpened key all pieces o → HasOpened key all others p → HadMemory p
    → AreFirstOf pieces others

-- No tag is forged: a piece that came, wherever it was in the bytes, with the tag of a number was sealed with that number.
abbrev pub IsUnforged : List ℕ → List (List ℕ) → List ℕ → Type 0
IsUnforged key sent all =
    (number : ℕ) (piece before after : List ℕ) → number < 2 ^ 64 → length piece ≤ MOST_PIECE_BYTES → all ≡ before ++ (frame key number piece ++ after)
    → slice_get sent number ≡ Some piece

-- If no tag is forged, what is taken is a beginning of what was sent, that is of the pieces that were sealed, in order.
abbrev pub TakenIsSent : Type 0
TakenIsSent =
    (key all : List ℕ) (pieces sent : List (List ℕ)) (o : OpenerView) → HasOpened key all pieces o → IsUnforged key sent all
    → AreFirstOf pieces sent

-- If the frames of what was sent came, and nothing else, all of it is taken, and more may come.
abbrev pub SentIsTaken : Type 0
SentIsTaken =
    (key : List ℕ) (pieces sent : List (List ℕ)) (o : OpenerView) → All (λ (piece : List ℕ). length piece ≤ MOST_PIECE_BYTES) sent → length sent + 1 < 2 ^ 64
    → HasOpened key (frames key 0 sent) pieces o → HadMemory o
    → (pieces ≡ sent) × (o.end ≡ None)

-- The text that a piece's tag is of tells its number and the piece.
abbrev pub PieceIsTold : Type 0
PieceIsTold =
    (number other_number : ℕ) (piece other : List ℕ) → number < 2 ^ 64 → other_number < 2 ^ 64 → length piece ≤ MOST_PIECE_BYTES → length other ≤ MOST_PIECE_BYTES
    → to_be_bytes w64 number ++ with_length piece ≡ to_be_bytes w64 other_number ++ with_length other
    → (number ≡ other_number) × (piece ≡ other)

-- The text of a key or a tag of a connection tells its word, if words have one length, and both hellos.
abbrev pub HandshakeIsTold : Type 0
HandshakeIsTold =
    (word other initiator others_initiator responder others_responder : List ℕ) → length word ≡ length other
    → length initiator < 2 ^ 64 → length others_initiator < 2 ^ 64
    → handshake_text word initiator responder ≡ handshake_text other others_initiator others_responder
    → (word ≡ other) × (initiator ≡ others_initiator) × (responder ≡ others_responder)
