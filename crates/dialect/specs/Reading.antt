-- The commands that a line with any number of keys asks.
use Rattle.std.specs.Prelude.{ℕ, ◌≡◌, ◌≤◌, List, [], ◌∷◌, ◌++◌, length, drop, Bool, ◌&&◌, nat_lt, nat_le, if◌then◌else◌, codes, flat_map}
use Rattle.std.specs.List.{list_all}
use Rattle.std.specs.Fmt.{signed_decimal}
use Rattle.proto.specs.Key.{is_key}
use Rattle.proto.specs.declared.key.TheConstants.{MOST_KEYS}
use Rattle.proto.specs.declared.line.TheConstants as profile
use Rattle.proto.specs.declared.command.Command.{Command}
use Rattle.proto.specs.declared.command.Command.TheVariants as command
use Rattle.dialect.specs.declared.turn.Notice.{Notice}
use Rattle.dialect.specs.declared.turn.Notice.TheVariants as notice
use Rattle.dialect.specs.declared.turn.Show.TheVariants as show
use Rattle.dialect.specs.declared.turn.Turn.{Turn}
use Rattle.dialect.specs.declared.turn.Turn.TheVariants.{Ask, Say}
use Rattle.dialect.specs.declared.line.ReadVerb.{ReadVerb}
use Rattle.dialect.specs.declared.line.ReadVerb.TheVariants.{Get, Gets, Gat, Gats}

-- the command of the profile that reads these keys
abbrev pub read_command : ReadVerb → List (List ℕ) → Command
read_command Get ks = command.Get ks
read_command Gets ks = command.Gets ks
read_command (Gat exptime) ks = command.Gat exptime ks
read_command (Gats exptime) ks = command.Gats exptime ks

-- what a line has before its keys
abbrev pub head : ReadVerb → List ℕ
head Get = codes "get"
head Gets = codes "gets"
head (Gat exptime) = codes "gat " ++ signed_decimal exptime
head (Gats exptime) = codes "gats " ++ signed_decimal exptime

abbrev pub spaced_key : List ℕ → List ℕ
spaced_key k = 32 ∷ k

-- its line, as the profile has it
unfoldable pub read_text : ReadVerb → List (List ℕ) → List ℕ
read_text r ks = head r ++ (flat_map spaced_key ks ++ codes "\r\n")

-- The keys fit on one line of the profile.
unfoldable pub keys_fit : ReadVerb → List (List ℕ) → Bool
keys_fit r ks = nat_le (length ks) MOST_KEYS && nat_le (length (read_text r ks)) profile.MOST_LINE_BYTES

-- the turns for these keys, which the line of a command has so far, and those after them: each command takes as many as fit
abbrev pub piece_turns : ReadVerb → List (List ℕ) → List (List ℕ) → List Turn
piece_turns r ks [] = Ask (read_command r ks) show.Whole ∷ []
piece_turns r ks (k ∷ more) =
    if keys_fit r (ks ++ k ∷ []) then piece_turns r (ks ++ k ∷ []) more
    else Ask (read_command r ks) show.Items ∷ piece_turns r (k ∷ []) more

-- what is said if there is no key
abbrev pub none_notice : ReadVerb → Notice
none_notice Get = notice.UnknownName
none_notice Gets = notice.UnknownName
none_notice (Gat exptime) = notice.NoItems
none_notice (Gats exptime) = notice.NoItems

-- the keys of the line, of the words after its name
abbrev pub keys_in : ReadVerb → List (List ℕ) → List (List ℕ)
keys_in Get ws = ws
keys_in Gets ws = ws
keys_in (Gat exptime) ws = drop 1 ws
keys_in (Gats exptime) ws = drop 1 ws

-- the turns of a line of these keys
abbrev pub read_turns : ReadVerb → List (List ℕ) → List Turn
read_turns r [] = Say (none_notice r) ∷ []
read_turns r (k ∷ ks) = if list_all is_key (k ∷ ks) then piece_turns r (k ∷ []) ks else Say notice.BadFormat ∷ []

-- whether a piece of so many keys takes one more, so that its line has so many bytes
abbrev pub has_room : ℕ → ℕ → Bool
has_room count bytes = nat_lt count MOST_KEYS && nat_le bytes profile.MOST_LINE_BYTES

-- These keys may be asked as one piece, and its line has so many bytes.
pub record IsPiece (r : ReadVerb) (ks : List (List ℕ)) (bytes : ℕ) : Type 0 where
  pub some : 1 ≤ length ks
  pub few : length ks ≤ MOST_KEYS
  pub len : bytes ≡ length (read_text r ks)
  pub short : bytes ≤ profile.MOST_LINE_BYTES
