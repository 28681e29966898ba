-- The inside of a reader.
use Rattle.std.specs.Prelude.{◌≡◌, ℕ, ◌+◌, ◌<◌, ◌≤◌, List, [], ◌∷◌, ◌++◌, length, take, drop, Bool, false}
use Rattle.proto.specs.Stage.{HasNoNewline}
use Rattle.dialect.specs.State.{State, state_at, is_binary, Runs, IsReaderState}
use Rattle.dialect.specs.declared.line.TheConstants.{MOST_LINE_BYTES}
use Rattle.dialect.specs.declared.turn.Turn.{Turn}
use Rattle.dialect.specs.declared.part.Part.{Part}
use Rattle.dialect.specs.declared.part.Part.TheVariants as part
use Rattle.dialect.specs.declared.stage.Cut.{Cut}
use Rattle.dialect.specs.declared.stage.Cut.TheVariants.{End, TooLong, Open}
use Rattle.dialect.specs.declared.stage.Stage.{Stage}

-- what a stage is, as contracts see it
abbrev pub stage_state : Stage → State
stage_state s = state_at s.part s.held.items

-- a line of which this is held begins with the first byte of the binary protocol
abbrev pub starts_binary : List ℕ → List ℕ → Bool
starts_binary held [] = false
starts_binary held (b ∷ piece) = is_binary held b

-- how a line goes on in a piece, of which so many bytes are held
abbrev pub CutsLine : ℕ → List ℕ → Cut → Type 0
CutsLine held piece (End at) = (at < length piece) × HasNoNewline (take at piece) × (held + at < MOST_LINE_BYTES) × (piece ≡ take at piece ++ 10 ∷ drop (at + 1) piece)
CutsLine held piece (TooLong n) = (0 < n) × (n ≤ length piece) × HasNoNewline (take n piece) × (held + n ≡ MOST_LINE_BYTES)
CutsLine held piece Open = HasNoNewline piece × (held + length piece < MOST_LINE_BYTES)

-- The piece ends neither a line nor what belongs to it.
abbrev pub EndsNothing : Part → List ℕ → List ℕ → Type 0
EndsNothing part.Line held piece = (starts_binary held piece ≡ false) × HasNoNewline piece × (length held + length piece < MOST_LINE_BYTES)
EndsNothing (part.Block o) held piece = length held + length piece < o.header.size + 2
EndsNothing (part.Unread left turn) held piece = length piece < left
EndsNothing part.Closed held piece = Unit {0}

abbrev pub IsBlockOf : ℕ → Part → Type 0
IsBlockOf size part.Line = ⊥
IsBlockOf size (part.Block o) = o.header.size ≡ size
IsBlockOf size (part.Unread left turn) = ⊥
IsBlockOf size part.Closed = ⊥

abbrev pub IsUnreadOf : ℕ → Part → Type 0
IsUnreadOf left part.Line = ⊥
IsUnreadOf left (part.Block o) = ⊥
IsUnreadOf left (part.Unread n turn) = n ≡ left
IsUnreadOf left part.Closed = ⊥

-- What is known while a piece is read: some of it was, and this is left.
pub record IsPartRead (old : State) (piece : List ℕ) (turns : List Turn) (new : State) (left : List ℕ) : Type 0 where
  pub front : List ℕ
  pub split : piece ≡ front ++ left
  pub runs : Runs old front [] turns new
  pub state : IsReaderState new
