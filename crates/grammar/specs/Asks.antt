-- What bytes ask in either grammar, and which bytes answer it.
use Rattle.std.specs.Prelude.{◌≡◌, ℕ, ◌+◌, ◌-◌, ◌≤◌, false, List, [], ◌∷◌, ◌++◌, map, Some, slice_get}
use Rattle.proto.specs.declared.command.Command.{Command}
use Rattle.proto.specs.declared.reply.Reply as replies
use Rattle.proto.specs.declared.turn.Turn.{Turn as ProfileTurn}
use Rattle.proto.specs.Grammar as profile
use Rattle.dialect.specs.declared.turn.Turn.{Turn as MemcachedTurn}
use Rattle.dialect.specs.Grammar as memcached
use Rattle.dialect.specs.State.{start}
use Rattle.dialect.specs.Text.{shown_text}
use Rattle.grammar.specs.declared.reader.Dialect.{Dialect}
use Rattle.grammar.specs.declared.reader.Dialect.TheVariants.{Profile, Memcached, Limited}
use Rattle.grammar.specs.declared.turn.Turn.{Turn}
use Rattle.grammar.specs.declared.turn.Turn.TheVariants.{Ask, Say, Close}
use Rattle.grammar.specs.Turns.{said_text, profile_turn, AreTurnsOf}
use Rattle.grammar.specs.Limit.{limited_turns}

-- The bytes spell these turns in the profile.
pub record SpellsProfile (bytes : List ℕ) (turns : List Turn) : Type 0 where
  pub spelled : List ProfileTurn
  pub rest : List ℕ
  pub spells : profile.Spells bytes spelled rest
  pub are : turns ≡ map profile_turn spelled

-- They spell these turns as memcached reads them. What `stats` gives are some figures.
pub record SpellsMemcached (bytes : List ℕ) (turns : List Turn) : Type 0 where
  pub spelled : List MemcachedTurn
  pub spells : memcached.Spells bytes spelled
  pub are : AreTurnsOf spelled turns

-- Bytes and marks spell these turns: as memcached reads the bytes, but storage commands are refused behind a mark of a server that may store no more.
abbrev pub SpellsLimited : List ℕ → List Turn → Type 0
SpellsLimited bytes turns = AreTurnsOf (limited_turns false start bytes) turns

abbrev pub SpellsIn : Dialect → List ℕ → List Turn → Type 0
SpellsIn Profile bytes turns = SpellsProfile bytes turns
SpellsIn Memcached bytes turns = SpellsMemcached bytes turns
SpellsIn Limited bytes turns = SpellsLimited bytes turns

-- the commands that turns ask, in order: the first one is command 1
abbrev pub commands_in : List Turn → List Command
commands_in [] = []
commands_in (Ask command show ∷ turns) = command ∷ commands_in turns
commands_in (Say notice ∷ turns) = commands_in turns
commands_in (Close notice ∷ turns) = commands_in turns

-- The bytes are the texts of these turns, of which command q is the first: each reply is one of which P holds at the number of its command.
abbrev pub TextsShown : (ℕ → replies.Reply → Type 0) → ℕ → List Turn → List ℕ → Type 0
TextsShown P q [] bytes = bytes ≡ []
TextsShown P q (Say notice ∷ turns) bytes = (more : List ℕ) × (bytes ≡ said_text notice ++ more) × TextsShown P q turns more
TextsShown P q (Close notice ∷ turns) bytes = (more : List ℕ) × (bytes ≡ said_text notice ++ more) × TextsShown P q turns more
TextsShown P q (Ask command show ∷ turns) bytes = (reply : replies.Reply) × (more : List ℕ) × P q reply × (bytes ≡ shown_text reply show ++ more) × TextsShown P (q + 1) turns more

-- these turns are a beginning of what the bytes spell
pub record BeginsIn (d : Dialect) (all : List ℕ) (taken : List Turn) : Type 0 where
  pub turns : List Turn
  pub more : List Turn
  pub spells : SpellsIn d all turns
  pub is : turns ≡ taken ++ more

-- the bytes spell turns of which this command is the one asked at this number; the first command has number 1
pub record IsAskedIn (d : Dialect) (bytes : List ℕ) (number : ℕ) (command : Command) : Type 0 where
  pub turns : List Turn
  pub spells : SpellsIn d bytes turns
  pub from_one : 1 ≤ number
  pub is : slice_get (commands_in turns) (number - 1) ≡ Some command
