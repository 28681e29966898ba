-- What a reader of either grammar keeps of a stream, and what a piece of it gives.
use Rattle.std.specs.Prelude.{◌≡◌, ℕ, ◌<◌, Bool, true, false, List, [], ◌++◌, map, get_or}
use Rattle.proto.specs.declared.turn.Turn.{Turn as ProfileTurn}
use Rattle.proto.specs.Reader as profile
use Rattle.dialect.specs.declared.turn.Turn.{Turn as MemcachedTurn}
use Rattle.dialect.specs.State as memcached
use Rattle.dialect.specs.Grammar.{HasRead}
use Rattle.grammar.specs.declared.reader.Dialect.{Dialect}
use Rattle.grammar.specs.declared.reader.Dialect.TheVariants as dialect
use Rattle.grammar.specs.declared.reader.Reader.{Reader}
use Rattle.grammar.specs.declared.reader.Reader.TheVariants.{Profile, Memcached, Limited}
use Rattle.grammar.specs.declared.turn.Turn.{Turn}
use Rattle.grammar.specs.Turns.{profile_turn, AreTurnsOf}
use Rattle.grammar.specs.Limit.{turn_when, behind_mark, limited_turns, limited_state}

-- nothing came yet
abbrev pub new_reader : Dialect → Reader
new_reader dialect.Profile = Profile (record { kept = []; closed = false; held = 0 })
new_reader dialect.Memcached = Memcached memcached.start
new_reader dialect.Limited = Limited memcached.start

-- in which grammar it reads
abbrev pub dialect_of : Reader → Dialect
dialect_of (Profile s) = dialect.Profile
dialect_of (Memcached s) = dialect.Memcached
dialect_of (Limited s) = dialect.Limited

-- What comes with a piece: a server with a limit notes whether its items have more bytes than that.
abbrev pub with_mark : Dialect → Bool → List ℕ → List ℕ
with_mark dialect.Profile full piece = piece
with_mark dialect.Memcached full piece = piece
with_mark dialect.Limited full piece = behind_mark full piece

-- Of these bytes a reader of the profile gave these turns, and it is where they lead.
pub record HasReadProfile (reader : Reader) (bytes : List ℕ) (turns : List Turn) : Type 0 where
  pub state : profile.Reading
  pub read : List ProfileTurn
  pub is : reader ≡ Profile state
  pub reads : profile.ReadsTurns bytes read state
  pub are : turns ≡ map profile_turn read

-- So did a reader of memcached's dialect.
pub record HasReadMemcached (reader : Reader) (bytes : List ℕ) (turns : List Turn) : Type 0 where
  pub state : memcached.State
  pub read : List MemcachedTurn
  pub is : reader ≡ Memcached state
  pub reads : HasRead bytes read state
  pub are : AreTurnsOf read turns

-- So did a reader of it with a limit, of bytes and marks.
pub record HasReadLimited (reader : Reader) (bytes : List ℕ) (turns : List Turn) : Type 0 where
  pub is : reader ≡ Limited (limited_state false memcached.start bytes).state
  pub are : AreTurnsOf (limited_turns false memcached.start bytes) turns

abbrev pub HasReadIn : Dialect → Reader → List ℕ → List Turn → Type 0
HasReadIn dialect.Profile reader bytes turns = HasReadProfile reader bytes turns
HasReadIn dialect.Memcached reader bytes turns = HasReadMemcached reader bytes turns
HasReadIn dialect.Limited reader bytes turns = HasReadLimited reader bytes turns

-- what a reader of the profile makes of a piece; after a Close there are no turns
abbrev pub GoesOnReading : Bool → profile.Reading → List ℕ → List ProfileTurn → profile.Reading → Type 0
GoesOnReading true old piece read new = (read ≡ []) × (new ≡ old)
GoesOnReading false old piece read new = profile.ReadsTurns (old.kept ++ piece) read new

pub record ReadsOnProfile (old : profile.Reading) (piece : List ℕ) (turns : List Turn) (new : Reader) : Type 0 where
  pub state : profile.Reading
  pub read : List ProfileTurn
  pub is : new ≡ Profile state
  pub reads : GoesOnReading old.closed old piece read state
  pub are : turns ≡ map profile_turn read

pub record ReadsOnMemcached (old : memcached.State) (piece : List ℕ) (turns : List Turn) (new : Reader) : Type 0 where
  pub state : memcached.State
  pub read : List MemcachedTurn
  pub is : new ≡ Memcached state
  pub reads : memcached.Runs old piece [] read state
  pub are : AreTurnsOf read turns

-- bytes, and no marks
abbrev pub AreBytes : List ℕ → Type 0
AreBytes bytes = (i : ℕ) → get_or bytes i 0 < 256

-- what a reader with a limit makes of a piece that comes with a mark
pub record ReadsOnLimited (old : memcached.State) (comes : List ℕ) (turns : List Turn) (new : Reader) : Type 0 where
  pub full : Bool
  pub piece : List ℕ
  pub marked_so : comes ≡ behind_mark full piece
  pub bytes : AreBytes piece
  pub state : memcached.State
  pub read : List MemcachedTurn
  pub is : new ≡ Limited state
  pub reads : memcached.Runs old piece [] read state
  pub are : AreTurnsOf (map (turn_when full) read) turns

-- What a reader makes of a piece: the turns that end in it.
abbrev pub ReaderReads : Reader → List ℕ → List Turn → Reader → Type 0
ReaderReads (Profile old) piece turns new = ReadsOnProfile old piece turns new
ReaderReads (Memcached old) piece turns new = ReadsOnMemcached old piece turns new
ReaderReads (Limited old) comes turns new = ReadsOnLimited old comes turns new
