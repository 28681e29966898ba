-- A slot for a connection, and a table of slots.
use Rattle.std.specs.Prelude.{◌≡◌, ◌≢◌, ◌⊎◌, ℕ, ◌-◌, ◌≤◌, ◌==◌, ◌&&◌, Bool, true, false, List, [], Option, Some, None, Result, Ok, Err, is_some, not, if◌then◌else◌, slice_get, slice_set}
use Rattle.base.specs.declared.fault.Fault.{Fault}
use Rattle.base.specs.declared.fault.Fault.TheVariants as fault
use Rattle.proto.specs.declared.reply.Reply as replies
use Rattle.grammar.specs.Reads.{dialect_of, with_mark}
use Rattle.session.specs.declared.session.Ready.{Ready}
use Rattle.loop_messages.specs.declared.message.TheConstants.{MOST_UNWRITTEN}
use Rattle.connections.specs.declared.slots.ConnectionId.{ConnectionId}
use Rattle.loop_messages.specs.declared.message.Said.{Said}
use Rattle.connections.specs.Connection.{ConnectionView, IsFedTo, ConnectionAnswers, IsTaken}

-- the connection of this number is there
abbrev pub is_of_connection : ℕ → Option ConnectionView → Bool
is_of_connection number None = false
is_of_connection number (Some c) = c.number == number

-- and has a command that was not taken
abbrev pub is_untaken : ℕ → Option ConnectionView → Bool
is_untaken number None = false
is_untaken number (Some c) = (c.number == number) && is_some c.session.command

pub record IsSaid (at : ConnectionId) (c : ConnectionView) (said : Said) : Type 0 where
  pub key : said.key ≡ at.key
  pub number : said.number ≡ at.number
  pub closes : said.closes ≡ c.session.closed
  pub waits : said.waits ≡ is_some c.session.outstanding

-- the connection failed, and leaves
pub record IsLastSaid (at : ConnectionId) (said : Said) : Type 0 where
  pub key : said.key ≡ at.key
  pub number : said.number ≡ at.number
  pub nothing : said.bytes.items ≡ []
  pub closes : said.closes ≡ true
  pub waits : said.waits ≡ false

abbrev pub stays_open : Result Said Fault → Bool
stays_open (Ok said) = not said.closes
stays_open (Err f) = false

-- ---- a piece comes

-- what comes with a piece to who is there
abbrev pub comes_to : Option ConnectionView → Bool → List ℕ → List ℕ
comes_to None full piece = piece
comes_to (Some c) full piece = with_mark (dialect_of c.session.reader) full piece

abbrev pub FeedsHere : ConnectionId → List ℕ → ConnectionView → Option ConnectionView → Result Said Fault → Type 0
FeedsHere at piece c new (Ok said) = (now : ConnectionView) × IsFedTo c piece now said.bytes.items × (now.number ≡ c.number) × (new ≡ (if not said.closes then Some now else None)) × IsSaid at now said
FeedsHere at piece c new (Err f) = (new ≡ None) × ((f ≡ fault.NoMemory) ⊎ (f ≡ fault.Stopped))

abbrev pub FeedsSlot : ConnectionId → List ℕ → Option ConnectionView → Option ConnectionView → Result Said Fault → Type 0
FeedsSlot at piece None new result = (new ≡ None) × (result ≡ Err fault.Unfit)
FeedsSlot at piece (Some c) new result = FeedsHere at piece c new result

-- ---- a reply comes

-- it takes the reply; or it fails
abbrev pub AnswersOne : ConnectionId → ℕ → replies.Reply → ConnectionView → ConnectionView → Said → Type 0
AnswersOne at turn reply c now said = (ConnectionAnswers c turn reply now said.bytes.items × IsSaid at now said) ⊎ IsLastSaid at said

abbrev pub AnswersHere : ConnectionId → ℕ → replies.Reply → ConnectionView → Option ConnectionView → Option Said → Type 0
AnswersHere at turn reply c new None = ⊥
AnswersHere at turn reply c new (Some said) = (now : ConnectionView) × AnswersOne at turn reply c now said × (now.number ≡ c.number) × (new ≡ (if not said.closes then Some now else None))

abbrev pub AnswersSlot : ConnectionId → ℕ → replies.Reply → Option ConnectionView → Option ConnectionView → Option Said → Type 0
AnswersSlot at turn reply None new result = (new ≡ None) × (result ≡ None)
AnswersSlot at turn reply (Some c) new result = AnswersHere at turn reply c new result

-- ---- a command is taken

-- if none is taken there is none to be taken, or too much waits to be written
abbrev pub TakesHere : ConnectionView → Option ConnectionView → Option Ready → Type 0
TakesHere c new None = (new ≡ Some c) × ((c.session.command ≡ None) ⊎ (c.session.outstanding ≡ None) ⊎ (MOST_UNWRITTEN ≤ c.unwritten))
TakesHere c new (Some ready) = (now : ConnectionView) × IsTaken c ready now × (new ≡ Some now)

abbrev pub TakesWhere : Bool → ConnectionView → Option ConnectionView → Option Ready → Type 0
TakesWhere true c new result = TakesHere c new result
TakesWhere false c new result = (new ≡ Some c) × (result ≡ None)

abbrev pub TakesSlot : ℕ → Option ConnectionView → Option ConnectionView → Option Ready → Type 0
TakesSlot number None new result = (new ≡ None) × (result ≡ None)
TakesSlot number (Some c) new result = TakesWhere (c.number == number) c new result

-- ---- it leaves

abbrev pub left_slot : ℕ → Option ConnectionView → Option ConnectionView
left_slot number slot = if is_of_connection number slot then None else slot

-- ---- a table of slots, by key

abbrev pub connection_at : Option (Option ConnectionView) → Option ConnectionView
connection_at None = None
connection_at (Some slot) = slot

-- the connection at this key
abbrev pub slot_in : List (Option ConnectionView) → ℕ → Option ConnectionView
slot_in table key = connection_at (slice_get table key)

abbrev pub is_here : ℕ → List (Option ConnectionView) → ℕ → Bool
is_here number table key = is_of_connection number (slot_in table key)

abbrev pub is_untaken_in : ℕ → List (Option ConnectionView) → ℕ → Bool
is_untaken_in number table key = is_untaken number (slot_in table key)

abbrev pub FeedsIn : ConnectionId → List ℕ → List (Option ConnectionView) → List (Option ConnectionView) → Result Said Fault → Option (Option ConnectionView) → Type 0
FeedsIn at piece old new result None = (new ≡ old) × (result ≡ Err fault.Unfit)
FeedsIn at piece old new result (Some slot) = (now : Option ConnectionView) × FeedsSlot at piece slot now result × (new ≡ slice_set old at.key now)

abbrev pub FeedsAt : ConnectionId → List ℕ → List (Option ConnectionView) → List (Option ConnectionView) → Result Said Fault → Type 0
FeedsAt at piece old new result = FeedsIn at piece old new result (slice_get old at.key)

abbrev pub AnswersIn : ConnectionId → ℕ → replies.Reply → List (Option ConnectionView) → List (Option ConnectionView) → Option Said → Option (Option ConnectionView) → Type 0
AnswersIn at turn reply old new result None = (new ≡ old) × (result ≡ None)
AnswersIn at turn reply old new result (Some slot) = (now : Option ConnectionView) × AnswersSlot at turn reply slot now result × (new ≡ slice_set old at.key now)

abbrev pub AnswersAt : ConnectionId → ℕ → replies.Reply → List (Option ConnectionView) → List (Option ConnectionView) → Option Said → Type 0
AnswersAt at turn reply old new result = AnswersIn at turn reply old new result (slice_get old at.key)

abbrev pub TakesIn : ConnectionId → List (Option ConnectionView) → List (Option ConnectionView) → Option Ready → Option (Option ConnectionView) → Type 0
TakesIn at old new result None = (new ≡ old) × (result ≡ None)
TakesIn at old new result (Some slot) = (now : Option ConnectionView) × TakesSlot at.number slot now result × (new ≡ slice_set old at.key now)

abbrev pub TakesAt : ConnectionId → List (Option ConnectionView) → List (Option ConnectionView) → Option Ready → Type 0
TakesAt at old new result = TakesIn at old new result (slice_get old at.key)

abbrev pub left_in : ConnectionId → List (Option ConnectionView) → Option (Option ConnectionView) → List (Option ConnectionView)
left_in at old None = old
left_in at old (Some slot) = slice_set old at.key (left_slot at.number slot)

-- the connection leaves, if it is here
abbrev pub left_at : ConnectionId → List (Option ConnectionView) → List (Option ConnectionView)
left_at at old = left_in at old (slice_get old at.key)

-- ---- bytes of it are written

abbrev pub after_written : ℕ → ConnectionView → ConnectionView
after_written count c = record c { unwritten = c.unwritten - count }

abbrev pub written_slot : ℕ → ℕ → Option ConnectionView → Option ConnectionView
written_slot number count None = None
written_slot number count (Some c) = Some (if c.number == number then after_written count c else c)

abbrev pub written_in : ConnectionId → ℕ → List (Option ConnectionView) → Option (Option ConnectionView) → List (Option ConnectionView)
written_in at count old None = old
written_in at count old (Some slot) = slice_set old at.key (written_slot at.number count slot)

-- so many bytes of the connection are written, if it is here
abbrev pub written_at : ConnectionId → ℕ → List (Option ConnectionView) → List (Option ConnectionView)
written_at at count old = written_in at count old (slice_get old at.key)

-- at each other key is what was there
abbrev pub HasSameOthers : ℕ → List (Option ConnectionView) → List (Option ConnectionView) → Type 0
HasSameOthers key old new = (other : ℕ) → other ≢ key → slot_in new other ≡ slot_in old other

-- no connection came or went
abbrev pub IsGrown : List (Option ConnectionView) → List (Option ConnectionView) → Type 0
IsGrown old new = (key : ℕ) → slot_in new key ≡ slot_in old key
