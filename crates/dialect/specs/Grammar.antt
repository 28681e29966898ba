-- What a stream of bytes asks, turn by turn.
use Rattle.std.specs.Prelude.{◌≡◌, ℕ, ◌+◌, ◌<◌, List, [], ◌∷◌, ◌++◌, length, false, Option}
use Rattle.std.specs.List.{list_any}
use Rattle.std.specs.Option.{option_to_list}
use Rattle.proto.specs.Grammar.{is_newline}
use Rattle.dialect.specs.Meaning.{meaning, block_turn}
use Rattle.dialect.specs.State.{State, start, read_bytes}
use Rattle.dialect.specs.declared.line.Opening.{Opening}
use Rattle.dialect.specs.declared.line.TheConstants.{MOST_LINE_BYTES}
use Rattle.dialect.specs.declared.turn.Notice.TheVariants as notice
use Rattle.dialect.specs.declared.turn.Turn.{Turn}
use Rattle.dialect.specs.declared.turn.Turn.TheVariants.{Close}
use Rattle.dialect.specs.declared.part.Part.{Part}
use Rattle.dialect.specs.declared.part.Part.TheVariants as part

-- the first byte is not that of the binary protocol
abbrev pub IsText : List ℕ → Type 0
IsText [] = Unit {0}
IsText (b ∷ bytes) = ¬ (b ≡ 128)

-- the bytes of a line before the byte 10 that ends it
pub record IsOneLine (text : List ℕ) : Type 0 where
  pub one_line : list_any is_newline text ≡ false
  pub short : length text < MOST_LINE_BYTES
  pub is_text : IsText text

-- how many bytes belong to a line and are not on it
abbrev pub more_bytes : Part → ℕ
more_bytes part.Line = 0
more_bytes (part.Block o) = o.header.size + 2
more_bytes (part.Unread n turn) = n
more_bytes part.Closed = 0

-- The bytes spell these turns: those of each line with its block, in order.
pub data Spells : List ℕ → List Turn → Type 0 where
  -- the last line has no end
  part_of_line : (text : List ℕ) → IsOneLine text → Spells text []
  -- its block has no end
  part_of_block : (text block : List ℕ) → IsOneLine text → length block < more_bytes (meaning text).part → Spells (text ++ 10 ∷ block) (meaning text).turns
  line : (text after : List ℕ) (turns : List Turn) → IsOneLine text → (meaning text).part ≡ part.Line → Spells after turns
      → Spells (text ++ 10 ∷ after) ((meaning text).turns ++ turns)
  with_block : (text block after : List ℕ) (turns : List Turn) (o : Opening) → IsOneLine text → (meaning text).part ≡ part.Block o → length block ≡ o.header.size + 2 → Spells after turns
      → Spells (text ++ 10 ∷ (block ++ after)) ((meaning text).turns ++ (option_to_list (block_turn o block) ++ turns))
  unread : (text block after : List ℕ) (turns : List Turn) (n : ℕ) (turn : Option Turn) → IsOneLine text → (meaning text).part ≡ part.Unread n turn → length block ≡ n → Spells after turns
      → Spells (text ++ 10 ∷ (block ++ after)) ((meaning text).turns ++ (option_to_list turn ++ turns))
  -- nothing is read after these
  closing : (text after : List ℕ) → IsOneLine text → (meaning text).part ≡ part.Closed → Spells (text ++ 10 ∷ after) (meaning text).turns
  too_long : (text after : List ℕ) → list_any is_newline text ≡ false → length text ≡ MOST_LINE_BYTES → IsText text → Spells (text ++ after) (Close notice.LineTooLong ∷ [])
  binary : (after : List ℕ) → Spells (128 ∷ after) (Close notice.Binary ∷ [])

-- These bytes were read, they spell these turns, and the reader is at this state.
pub record HasRead (bytes : List ℕ) (turns : List Turn) (state : State) : Type 0 where
  pub spells : Spells bytes turns
  pub all : turns ≡ (read_bytes start bytes).turns
  pub stands : state ≡ (read_bytes start bytes).state
