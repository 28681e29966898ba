-- What the laws of the dialect say.
use Rattle.std.specs.Prelude.{◌≡◌, ℕ, ◌≤◌, List, [], ◌∷◌, ◌++◌, length, drop, Bool, true, false, ◌⊎◌, IfSome, Some, codes}
use Rattle.std.specs.List.{list_all}
use Rattle.proto.specs.Key.{is_key}
use Rattle.proto.specs.Line.{words}
use Rattle.proto.specs.declared.key.TheConstants.{MOST_KEYS}
use Rattle.proto.specs.declared.line.TheConstants as profile
use Rattle.proto.specs.declared.command.Command.{Command}
use Rattle.proto.specs.declared.command.Command.TheVariants as command
use Rattle.proto.specs.declared.command.Update.TheVariants as update
use Rattle.proto.specs.declared.reply.Found.{Found}
use Rattle.proto.specs.declared.reply.Reply.{Reply}
use Rattle.proto.specs.declared.reply.Reply.TheVariants as reply
use Rattle.dialect.specs.Name.{name_of}
use Rattle.dialect.specs.Line.{says_noreply}
use Rattle.dialect.specs.Meta.{has}
use Rattle.dialect.specs.Meaning.{block_turn, without_return}
use Rattle.dialect.specs.Reading.{read_command, read_text}
use Rattle.dialect.specs.Text.{notice_text, shown_text}
use Rattle.dialect.specs.declared.meta.Meta.{Meta}
use Rattle.dialect.specs.declared.meta.Meta.TheVariants as meta
use Rattle.dialect.specs.declared.line.Name.{Name}
use Rattle.dialect.specs.declared.line.Name.TheVariants as name
use Rattle.dialect.specs.declared.line.ReadVerb.{ReadVerb}
use Rattle.dialect.specs.declared.part.Part.{Part}
use Rattle.dialect.specs.declared.part.Part.TheVariants as part
use Rattle.dialect.specs.declared.turn.Notice.{Notice}
use Rattle.dialect.specs.declared.turn.Show.{Show}
use Rattle.dialect.specs.declared.turn.Show.TheVariants as show
use Rattle.dialect.specs.declared.turn.Turn.{Turn}
use Rattle.dialect.specs.declared.turn.Turn.TheVariants.{Ask, Say, Close}

-- noreply.

-- whether the words after a command's name leave out all bytes: the last is noreply. The first word of a delete is a key.
abbrev pub leaves_out : Name → List (List ℕ) → Bool
leaves_out (name.Store verb) ws = says_noreply ws
leaves_out name.Cas ws = says_noreply ws
leaves_out name.Get ws = false
leaves_out name.Gets ws = false
leaves_out name.Gat ws = false
leaves_out name.Gats ws = false
leaves_out name.Delete ws = says_noreply (drop 1 ws)
leaves_out name.Touch ws = says_noreply ws
leaves_out name.Incr ws = says_noreply ws
leaves_out name.Decr ws = says_noreply ws
leaves_out name.Version ws = false
leaves_out name.Quit ws = says_noreply ws
leaves_out name.Verbosity ws = says_noreply ws
leaves_out name.FlushAll ws = says_noreply ws
leaves_out name.Shutdown ws = says_noreply ws
leaves_out name.MetaNoop ws = false
leaves_out name.Stats ws = false
leaves_out name.Crawler ws = false
leaves_out (name.Meta m) ws = false
leaves_out name.Http ws = false

-- the line is that of a command, and says noreply
pub record IsNoreply (line : List ℕ) : Type 0 where
  pub first : List ℕ
  pub others : List (List ℕ)
  pub called : Name
  pub splits : words (without_return line) ≡ first ∷ others
  pub named : name_of first ≡ Some called
  pub quiet : leaves_out called others ≡ true

-- no byte is given, whatever the reply is
abbrev pub ShowsNothing : Turn → Type 0
ShowsNothing (Ask c s) = s ≡ show.Quiet
ShowsNothing (Say n) = ⊥
ShowsNothing (Close n) = notice_text n ≡ []

abbrev pub AllShowNothing : List Turn → Type 0
AllShowNothing [] = Unit {0}
AllShowNothing (turn ∷ turns) = ShowsNothing turn × AllShowNothing turns

-- nor at the end of what belongs to a line, whatever its bytes are
abbrev pub PartShowsNothing : Part → Type 0
PartShowsNothing part.Line = Unit {0}
PartShowsNothing (part.Block o) = (block : List ℕ) → IfSome (block_turn o block) ShowsNothing
PartShowsNothing (part.Unread n turn) = IfSome turn ShowsNothing
PartShowsNothing part.Closed = Unit {0}

-- Quiet meta lines.

-- the flags of a meta line, of the words after its name
abbrev pub flags_behind : Meta → List (List ℕ) → List (List ℕ)
flags_behind meta.Get ws = drop 1 ws
flags_behind meta.Set ws = drop 2 ws
flags_behind meta.Delete ws = drop 1 ws
flags_behind meta.Count ws = drop 1 ws

-- the line is that of a meta command, with the flag q
pub record IsQuietMeta (line : List ℕ) : Type 0 where
  pub first : List ℕ
  pub others : List (List ℕ)
  pub called : Meta
  pub splits : words (without_return line) ≡ first ∷ others
  pub named : name_of first ≡ Some (name.Meta called)
  pub quiet : has (codes "q") (flags_behind called others) ≡ true

-- the replies that a quiet line does not show
abbrev pub IsExpected : Reply → Type 0
IsExpected reply.Stored = Unit {0}
IsExpected reply.NotStored = ⊥
IsExpected reply.Exists = ⊥
IsExpected reply.NotFound = ⊥
IsExpected reply.Deleted = Unit {0}
IsExpected reply.Touched = ⊥
IsExpected (reply.Number n) = Unit {0}
IsExpected (reply.Values found) = found ≡ []
IsExpected reply.TooLarge = ⊥
IsExpected reply.NotNumber = ⊥

-- No byte is given for an expected reply, but if the command only removes what a block that is too large would have replaced.
abbrev pub HidesExpected : Turn → Type 0
HidesExpected (Ask c s) = ((n : Notice) × (s ≡ show.Instead n)) ⊎ ((r : Reply) → IsExpected r → shown_text r s ≡ [])
HidesExpected (Say n) = Unit {0}
HidesExpected (Close n) = Unit {0}

abbrev pub AllHideExpected : List Turn → Type 0
AllHideExpected [] = Unit {0}
AllHideExpected (turn ∷ turns) = HidesExpected turn × AllHideExpected turns

abbrev pub PartHidesExpected : Part → Type 0
PartHidesExpected part.Line = Unit {0}
PartHidesExpected (part.Block o) = (block : List ℕ) → IfSome (block_turn o block) HidesExpected
PartHidesExpected (part.Unread n turn) = IfSome turn HidesExpected
PartHidesExpected part.Closed = Unit {0}

-- What is refused.

-- the commands that turns ask, in order
abbrev pub commands : List Turn → List Command
commands [] = []
commands (Ask c s ∷ turns) = c ∷ commands turns
commands (Say n ∷ turns) = commands turns
commands (Close n ∷ turns) = commands turns

-- a text is given by itself
abbrev pub speaks : List Turn → Bool
speaks [] = false
speaks (Ask c s ∷ turns) = speaks turns
speaks (Say n ∷ turns) = true
speaks (Close n ∷ turns) = true

-- a turn that asks at most to remove a key
abbrev pub OnlyRemoves : Turn → Type 0
OnlyRemoves (Ask c s) = (key : List ℕ) × (c ≡ command.Update (update.Delete key))
OnlyRemoves (Say n) = Unit {0}
OnlyRemoves (Close n) = Unit {0}

abbrev pub UnreadOnlyRemoves : Part → Type 0
UnreadOnlyRemoves part.Line = Unit {0}
UnreadOnlyRemoves (part.Block o) = Unit {0}
UnreadOnlyRemoves (part.Unread n turn) = IfSome turn OnlyRemoves
UnreadOnlyRemoves part.Closed = Unit {0}

-- Many keys.

-- the keys of a command that reads
abbrev pub keys_read : Command → List (List ℕ)
keys_read (command.Get ks) = ks
keys_read (command.Gets ks) = ks
keys_read (command.Gat exptime ks) = ks
keys_read (command.Gats exptime ks) = ks
keys_read (command.Update u) = []

-- the keys of all commands, in order
abbrev pub all_keys : List Turn → List (List ℕ)
all_keys [] = []
all_keys (Ask c s ∷ turns) = keys_read c ++ all_keys turns
all_keys (Say n ∷ turns) = all_keys turns
all_keys (Close n ∷ turns) = all_keys turns

-- a command of the profile over 1 to MOST_KEYS keys, whose line has at most the profile's bytes
pub record IsPieceTurn (r : ReadVerb) (turn : Turn) : Type 0 where
  pub keys : List (List ℕ)
  pub shows : Show
  pub is : turn ≡ Ask (read_command r keys) shows
  pub valid : list_all is_key keys ≡ true
  pub some : 1 ≤ length keys
  pub few : length keys ≤ MOST_KEYS
  pub short : length (read_text r keys) ≤ profile.MOST_LINE_BYTES

abbrev pub ArePieces : ReadVerb → List Turn → Type 0
ArePieces r [] = Unit {0}
ArePieces r (turn ∷ turns) = IsPieceTurn r turn × ArePieces r turns

-- the items that the replies to some turns have
abbrev pub all_found : List (List Found) → List Found
all_found [] = []
all_found (found ∷ more) = found ++ all_found more

-- the bytes that are given for turns, if the reply to each has these items
abbrev pub bytes_shown : List Turn → List (List Found) → List ℕ
bytes_shown [] found = []
bytes_shown (turn ∷ turns) [] = []
bytes_shown (Ask c s ∷ turns) (f ∷ found) = shown_text (reply.Values f) s ++ bytes_shown turns found
bytes_shown (Say n ∷ turns) (f ∷ found) = notice_text n ++ bytes_shown turns found
bytes_shown (Close n ∷ turns) (f ∷ found) = notice_text n ++ bytes_shown turns found
