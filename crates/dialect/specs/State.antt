-- What a reader does with each byte of a stream.
use Rattle.std.specs.Prelude.{◌≡◌, ℕ, ◌+◌, ◌-◌, ◌<◌, ◌≤◌, List, [], ◌∷◌, ◌++◌, length, Bool, false, ◌==◌, nat_lt, nat_le, if◌then◌else◌, Option}
use Rattle.std.specs.Option.{option_to_list}
use Rattle.proto.specs.Grammar.{is_newline}
use Rattle.proto.specs.declared.block.TheConstants.{MOST_BLOCK_BYTES}
use Rattle.dialect.specs.Meaning.{meaning, block_turn}
use Rattle.dialect.specs.declared.line.Opening.{Opening}
use Rattle.dialect.specs.declared.line.TheConstants.{MOST_LINE_BYTES}
use Rattle.dialect.specs.declared.turn.Notice.TheVariants as notice
use Rattle.dialect.specs.declared.turn.Turn.{Turn}
use Rattle.dialect.specs.declared.turn.Turn.TheVariants.{Close}
use Rattle.dialect.specs.declared.part.Part.{Part}
use Rattle.dialect.specs.declared.part.Part.TheVariants as part

-- what is read, and the bytes of it that are there
pub record State : Type 0 where
  pub part : Part
  pub held : List ℕ

abbrev pub state_at : Part → List ℕ → State
state_at p bytes = record { part = p; held = bytes }

-- nothing came yet
abbrev pub start : State
start = state_at part.Line []

-- the turns that a byte ends, and the state after it
pub record ReaderStep : Type 0 where
  pub turns : List Turn
  pub state : State

abbrev pub to : List Turn → State → ReaderStep
to turns state = record { turns = turns; state = state }

-- the first byte of a line is that of the binary protocol
abbrev pub is_binary : List ℕ → ℕ → Bool
is_binary [] b = b == 128
is_binary (c ∷ line) b = false

abbrev pub line_step : List ℕ → ℕ → ReaderStep
line_step line b =
    if is_binary line b then to (Close notice.Binary ∷ []) (state_at part.Closed [])
    else if is_newline b then to (meaning line).turns (state_at (meaning line).part [])
    else if nat_le MOST_LINE_BYTES (length line + 1) then to (Close notice.LineTooLong ∷ []) (state_at part.Closed [])
    else to [] (state_at part.Line (line ++ b ∷ []))

abbrev pub block_step : Opening → List ℕ → ReaderStep
block_step o bytes = if nat_lt (length bytes) (o.header.size + 2) then to [] (state_at (part.Block o) bytes) else to (option_to_list (block_turn o bytes)) start

abbrev pub unread_step : ℕ → Option Turn → ReaderStep
unread_step left turn = if nat_le left 1 then to (option_to_list turn) start else to [] (state_at (part.Unread (left - 1) turn) [])

abbrev pub part_step : Part → List ℕ → ℕ → ReaderStep
part_step part.Line held b = line_step held b
part_step (part.Block o) held b = block_step o (held ++ b ∷ [])
part_step (part.Unread left turn) held b = unread_step left turn
part_step part.Closed held b = to [] (state_at part.Closed [])

unfoldable pub read_byte : State → ℕ → ReaderStep
read_byte s b = part_step s.part s.held b

abbrev pub and_then : List Turn → ReaderStep → ReaderStep
and_then turns s = to (turns ++ s.turns) s.state

-- the turns that the bytes end from a state on, and the state after them
unfoldable pub read_bytes : State → List ℕ → ReaderStep
read_bytes s [] = to [] s
read_bytes s (b ∷ bytes) = and_then (read_byte s b).turns (read_bytes (read_byte s b).state bytes)

-- The bytes were read from one state to another, and these turns came to those before.
pub record Runs (old : State) (bytes : List ℕ) (before after : List Turn) (new : State) : Type 0 where
  pub turns : after ≡ before ++ (read_bytes old bytes).turns
  pub state : new ≡ (read_bytes old bytes).state

-- what is held is within its limits
abbrev pub HoldsWithin : Part → List ℕ → Type 0
HoldsWithin part.Line held = length held < MOST_LINE_BYTES
HoldsWithin (part.Block o) held = (length held < o.header.size + 2) × (o.header.size ≤ MOST_BLOCK_BYTES)
HoldsWithin (part.Unread left turn) held = (0 < left) × (held ≡ [])
HoldsWithin part.Closed held = held ≡ []

abbrev pub IsReaderState : State → Type 0
IsReaderState s = HoldsWithin s.part s.held
