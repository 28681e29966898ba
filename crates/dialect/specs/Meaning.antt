-- What a line means, and what comes after it.
use Rattle.std.specs.Prelude.{ℕ, ◌-◌, List, [], ◌∷◌, length, take, drop, if◌then◌else◌, Option, Some, bytes_eq}
use Rattle.std.specs.Option.{option_map_or, option_to_list}
use Rattle.proto.specs.Line.{words, ends_in_return}
use Rattle.proto.specs.Grammar.{filled}
use Rattle.dialect.specs.Name.{name_of}
use Rattle.dialect.specs.Line.{says_noreply, line_of, said}
use Rattle.dialect.specs.Reading.{read_turns, keys_in}
use Rattle.dialect.specs.declared.turn.Notice.TheVariants as notice
use Rattle.dialect.specs.declared.turn.Turn.{Turn}
use Rattle.dialect.specs.declared.turn.Turn.TheVariants.{Ask, Say, Close}
use Rattle.dialect.specs.declared.line.Opening.{Opening}
use Rattle.dialect.specs.declared.line.Line.{Line}
use Rattle.dialect.specs.declared.line.Line.TheVariants.{Gives, Closes, Reads, Opens, Skips}
use Rattle.dialect.specs.declared.part.Part.{Part}
use Rattle.dialect.specs.declared.part.Part.TheVariants as part

-- the turns of a line, and what is read next
pub record Meaning : Type 0 where
  pub turns : List Turn
  pub part : Part

abbrev pub meaning_of_line : Line → List (List ℕ) → Meaning
meaning_of_line (Gives turn) ws = record { turns = option_to_list turn; part = part.Line }
meaning_of_line (Closes notice) ws = record { turns = Close notice ∷ []; part = part.Closed }
meaning_of_line (Reads r) ws = record { turns = read_turns r (keys_in r ws); part = part.Line }
meaning_of_line (Opens o) ws = record { turns = []; part = part.Block o }
meaning_of_line (Skips n turn) ws = record { turns = []; part = part.Unread n turn }

abbrev pub unknown : Meaning
unknown = record { turns = Say notice.UnknownName ∷ []; part = part.Line }

-- the words of a line
abbrev pub meaning_of_words : List (List ℕ) → Meaning
meaning_of_words [] = unknown
meaning_of_words (w ∷ ws) = option_map_or (λ name. meaning_of_line (line_of name (says_noreply ws) ws) ws) (name_of w) unknown

-- a byte 13 at the end is no part of the line
abbrev pub without_return : List ℕ → List ℕ
without_return line = if ends_in_return line then take (length line - 1) line else line

-- what a line means, by its bytes before the byte 10
unfoldable pub meaning : List ℕ → Meaning
meaning line = meaning_of_words (words (without_return line))

-- the turn of a storage line with its block, and the two bytes after it
abbrev pub block_turn : Opening → List ℕ → Option Turn
block_turn o bytes =
    if bytes_eq (drop o.header.size bytes) (13 ∷ 10 ∷ []) then Some (Ask (filled o.header (take o.header.size bytes)) o.show)
    else said o.header.quiet notice.BadChunk
