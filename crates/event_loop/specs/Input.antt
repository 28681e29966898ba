-- What one read does to a reader whose bytes are known.
use Rattle.std.specs.Prelude.{ℕ, ◌≡◌, ◌≢◌, false, List, [], Option, ⊤}
use Rattle.std.specs.Io.KnownBytes.{Consumes, Keeps}
use Rattle.event_loop.specs.declared.input.Piece.{Piece}
use Rattle.event_loop.specs.declared.input.Piece.TheVariants.{Bytes, Nothing, Interrupted, End}

-- the bytes that are given were the next ones, and are not given again. If none are given none are lost,
-- but at the end
abbrev pub IsPieceRead : Option (List ℕ) → Option (List ℕ) → Piece → Type 0
IsPieceRead old new (Bytes bytes has_more) = Consumes old new bytes.items × (bytes.items ≢ [])
IsPieceRead old new Nothing = Keeps old new
IsPieceRead old new Interrupted = Keeps old new
IsPieceRead old new End = ⊤

-- the bytes that are given
abbrev pub bytes_of_piece : Piece → List ℕ
bytes_of_piece (Bytes bytes has_more) = bytes.items
bytes_of_piece Nothing = []
bytes_of_piece Interrupted = []
bytes_of_piece End = []

-- nothing is left to read until an event tells of more
abbrev pub IsEmptied : Piece → Type 0
IsEmptied (Bytes bytes has_more) = has_more ≡ false
IsEmptied Nothing = ⊤
IsEmptied Interrupted = ⊥
IsEmptied End = ⊥

-- the other side closed the stream, the read failed, or its bytes are lost
abbrev pub IsEnd : Piece → Type 0
IsEnd (Bytes bytes has_more) = ⊥
IsEnd Nothing = ⊥
IsEnd Interrupted = ⊥
IsEnd End = ⊤
