-- The inside of a reader.
use Rattle.std.specs.Prelude.{◌≡◌, ℕ, ◌+◌, ◌<◌, ◌≤◌, List, [], ◌∷◌, ◌++◌, length, take, drop, replicate, Bool, true, false, nat_lt, Option, Some, None, slice_range}
use Rattle.std.specs.List.{list_any}
use Rattle.proto.specs.Line.{meaning}
use Rattle.proto.specs.declared.block.TheConstants.{MOST_BLOCK_BYTES}
use Rattle.proto.specs.Grammar.{next_turn, block_turn, is_newline}
use Rattle.proto.specs.declared.line.TheConstants.{MOST_LINE_BYTES}
use Rattle.proto.specs.Reader.{kept_of, Reading}
use Rattle.proto.specs.declared.turn.Turn.{Turn}
use Rattle.proto.specs.declared.turn.Turn.TheVariants.{Close}
use Rattle.proto.specs.declared.turn.Notice.TheVariants.{LineTooLong}
use Rattle.proto.specs.declared.stage.Cut.{Cut}
use Rattle.proto.specs.declared.stage.Cut.TheVariants.{End, TooLong, Open}
use Rattle.proto.specs.declared.line.Header.{Header}
use Rattle.proto.specs.declared.line.Line.{Line}
use Rattle.proto.specs.declared.line.Line.TheVariants.{Whole, Opens}
use Rattle.proto.specs.declared.stage.Stage.{Stage}

abbrev pub HasNoNewline : List ℕ → Type 0
HasNoNewline bytes = list_any is_newline bytes ≡ false

-- a correct storage line is there, and part of its block
pub record InBlock (h : Header) (line block : List ℕ) (dropped : ℕ) : Type 0 where
  pub text : List ℕ
  pub line_is : line ≡ text ++ 10 ∷ []
  pub one_line : HasNoNewline text
  pub short : length text < MOST_LINE_BYTES
  pub opens : meaning text ≡ Opens h
  pub partial : dropped + length block < h.size + 2
  pub within : dropped ≤ h.size
  pub kept : nat_lt MOST_BLOCK_BYTES h.size ≡ false → dropped ≡ 0
  pub blank : nat_lt MOST_BLOCK_BYTES h.size ≡ true → 0 < length block → dropped ≡ h.size

-- part of a line is there
pub record InLine (line block : List ℕ) (dropped : ℕ) : Type 0 where
  pub one_line : HasNoNewline line
  pub short : length line < MOST_LINE_BYTES
  pub no_block : block ≡ []
  pub none_dropped : dropped ≡ 0

-- part of a line is there, or a storage line whose block has this size
abbrev pub IsStageOf : Option ℕ → List ℕ → List ℕ → ℕ → Type 0
IsStageOf None line block dropped = InLine line block dropped
IsStageOf (Some size) line block dropped = (h : Header) × (h.size ≡ size) × InBlock h line block dropped

abbrev pub IsStage : Stage → Type 0
IsStage s = IsStageOf s.size s.line s.block s.dropped

-- a block follows the line
abbrev pub OpensBlock : Line → Type 0
OpensBlock (Whole turn) = ⊥
OpensBlock (Opens h) = Unit {0}

-- the turn of a storage line, if its block and the two bytes after it begin these bytes, and none if they are not all there
abbrev pub IsTurnWithin : Header → List ℕ → Option Turn → Type 0
IsTurnWithin h after None = length after < h.size + 2
IsTurnWithin h after (Some turn) = (h.size + 2 ≤ length after) × (turn ≡ block_turn h (take h.size after) (slice_range after h.size (h.size + 2)))

-- the bytes that it stands for
abbrev pub staged : Stage → List ℕ
staged s = s.line ++ (replicate s.dropped 0 ++ s.block)

-- All of the piece was taken in, and no turn ended.
abbrev pub TakesPiece : List ℕ → List ℕ → Stage → Type 0
TakesPiece bytes piece new = (next_turn (bytes ++ piece) ≡ None) × (staged new ≡ kept_of (bytes ++ piece))

-- neither the line nor the block ends in the piece
abbrev pub GoesOn : Option ℕ → List ℕ → List ℕ → ℕ → List ℕ → Type 0
GoesOn None line block dropped piece = HasNoNewline (line ++ piece) × (length (line ++ piece) < MOST_LINE_BYTES)
GoesOn (Some size) line block dropped piece = dropped + length block + length piece < size + 2

-- the block and its end are there with the piece, if a block is there
abbrev pub BlockEnds : Option ℕ → List ℕ → ℕ → List ℕ → Type 0
BlockEnds None block dropped piece = Unit {0}
BlockEnds (Some size) block dropped piece = size + 2 ≤ dropped + length block + length piece

-- A step took n bytes of the piece, and gave this turn, or none so far. If it gave none and more is there, it dropped nothing.
abbrev pub StepGives : List ℕ → List ℕ → Option Turn → ℕ → Stage → Type 0
StepGives bytes piece None n new = (0 < n) × (n ≤ length piece) × (next_turn (bytes ++ take n piece) ≡ None) × (staged new ≡ kept_of (bytes ++ take n piece))
    × (n < length piece → staged new ≡ bytes ++ take n piece)
StepGives bytes piece (Some turn) n new = (0 < n) × (n ≤ length piece) × (next_turn (bytes ++ piece) ≡ Some (turn, drop n piece)) × (staged new ≡ [])

-- the first newline of the bytes, if there is one
abbrev pub FindsNewline : List ℕ → Option ℕ → Type 0
FindsNewline bytes None = HasNoNewline bytes
FindsNewline bytes (Some at) = (at < length bytes) × HasNoNewline (take at bytes) × (bytes ≡ take at bytes ++ 10 ∷ drop (at + 1) bytes)

-- how a line goes on in a piece
abbrev pub Cuts : List ℕ → List ℕ → Cut → Type 0
Cuts line piece (End at) = (at < length piece) × HasNoNewline (line ++ take at piece) × (length (line ++ take at piece) < MOST_LINE_BYTES) × (piece ≡ take at piece ++ 10 ∷ drop (at + 1) piece)
Cuts line piece (TooLong n) = (0 < n) × (n ≤ length piece) × (next_turn (line ++ piece) ≡ Some (Close LineTooLong, drop n piece))
Cuts line piece Open = HasNoNewline (line ++ piece) × (length (line ++ piece) < MOST_LINE_BYTES)

-- The bytes begin with these turns, of which none closes, and then come those of this.
abbrev pub SoFar : List ℕ → List Turn → List ℕ → Type 0
SoFar bytes [] left = bytes ≡ left
SoFar bytes (Close notice ∷ turns) left = ⊥
SoFar bytes (turn ∷ turns) left = (after : List ℕ) × (next_turn bytes ≡ Some (turn, after)) × SoFar after turns left

-- the reader over a stage
abbrev pub reading : Stage → Bool → Reading
reading s closed = record { kept = staged s; closed = closed; held = length s.line + length s.block }

-- What is known while a piece is read: the bytes begin with the turns, and then these are left, and what is not read yet.
pub record IsReading (bytes : List ℕ) (turns : List Turn) (s : Stage) (unread : List ℕ) : Type 0 where
  pub left : List ℕ
  pub so_far : SoFar bytes turns (left ++ unread)
  pub none : next_turn left ≡ None
  pub kept : staged s ≡ kept_of left
  pub same : 0 < length unread → staged s ≡ left
  pub stage : IsStage s
