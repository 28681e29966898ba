-- All connections, what came of them and what they were given.
use Rattle.std.specs.Prelude.{◌≡◌, ℕ, ◌+◌, ◌≤◌, ◌<◌, ◌==◌, Bool, false, List, [], ◌∷◌, ◌++◌, flat_map, Option, Some, None, Result, Ok, Err, Contains, slice_get, if◌then◌else◌}
use Rattle.proto.specs.declared.command.Command.{Command}
use Rattle.proto.specs.declared.reply.Reply as replies
use Rattle.grammar.specs.declared.reader.Dialect.{Dialect}
use Rattle.grammar.specs.declared.turn.Turn.{Turn}
use Rattle.grammar.specs.Asks.{TextsShown, BeginsIn, IsAskedIn}
use Rattle.grammar.specs.Reads.{dialect_of}
use Rattle.session.specs.Taken.{SessionOk}
use Rattle.base.specs.declared.fault.Fault.{Fault}
use Rattle.connections.specs.declared.connections.CommandNumber.{CommandNumber}
use Rattle.loop_messages.specs.declared.message.Said.{Said}
use Rattle.connections.specs.Connection.{ConnectionView}
use Rattle.connections.specs.History.{Passed, heard_as, given_as, heard_among, given_among}
use Rattle.connections.specs.Slots.{slot_in}

pub record ConnectionsView : Type 0 where
  -- in which grammar their bytes are read
  pub dialect : Dialect
  -- by the event loop's keys
  pub table : List (Option ConnectionView)
  -- the least number that the next connection may have
  pub next : ℕ
  -- the least number that the first connection might have
  pub first : ℕ
  -- what came of each connection, in order, by its number
  pub heard : List (ℕ × List ℕ)
  -- what each connection was given
  pub given : List (ℕ × List ℕ)
  -- both, in one order, with the moments that came between
  pub passed : List Passed
  -- the commands that were taken
  pub taken : List (CommandNumber × Command)
  -- the replies that came back
  pub replied : List (CommandNumber × replies.Reply)

abbrev pub bytes_in : ℕ → ℕ × List ℕ → List ℕ
bytes_in number e = if e.0 == number then e.1 else []

-- the bytes of the connection of this number, in order
abbrev pub bytes_of_connection : ℕ → List (ℕ × List ℕ) → List ℕ
bytes_of_connection number log = flat_map (bytes_in number) log

-- this reply came back for command `turn` of connection `number`
abbrev pub WasReplied : List (CommandNumber × replies.Reply) → ℕ → ℕ → replies.Reply → Type 0
WasReplied replied number turn reply = Contains replied (record { connection = number; turn = turn }, reply)

-- What was given are the texts of the first turns that the bytes spell in the grammar, in order: for each command a reply of which P holds at its number.
pub record IsAnswered (d : Dialect) (P : ℕ → replies.Reply → Type 0) (heard given : List ℕ) : Type 0 where
  pub taken : List Turn
  pub texts : TextsShown P 1 taken given
  pub first : BeginsIn d heard taken

-- the commands of this connection that were taken come before this one
abbrev pub AreBefore : List (CommandNumber × Command) → ℕ → ℕ → Type 0
AreBefore taken number turn = (e : CommandNumber × Command) → Contains taken e → e.0.connection ≡ number → e.0.turn < turn

-- each command of this connection before this one was answered
abbrev pub AreReplied : List (CommandNumber × replies.Reply) → ℕ → ℕ → Type 0
AreReplied replied number turn = (k : ℕ) → 1 ≤ k → k < turn → (reply : replies.Reply) × WasReplied replied number k reply

-- no connection came, and the first one has this number at least
abbrev pub no_connections_from : Dialect → ℕ → ConnectionsView
no_connections_from d first = record { dialect = d; table = []; next = first; first = first; heard = []; given = []; passed = []; taken = []; replied = [] }

-- no connection came
abbrev pub no_connections : Dialect → ConnectionsView
no_connections d = no_connections_from d 0

pub record HasSameLogs (v now : ConnectionsView) : Type 0 where
  pub dialect : now.dialect ≡ v.dialect
  pub first : now.first ≡ v.first
  pub heard : now.heard ≡ v.heard
  pub given : now.given ≡ v.given
  pub passed : now.passed ≡ v.passed
  pub taken : now.taken ≡ v.taken
  pub replied : now.replied ≡ v.replied

-- a connection read this piece, and was given what it is told, if the call did not fail
abbrev pub PassesOn : ℕ → List ℕ → List Passed → List Passed → Result Said Fault → Type 0
PassesOn number piece passed now (Ok said) = now ≡ (passed ++ heard_as number piece ∷ []) ++ given_as number said.bytes.items ∷ []
PassesOn number piece passed now (Err fault) = now ≡ passed ++ heard_as number piece ∷ []

-- ---- what always holds

-- one for a command that was not taken yet
abbrev pub untaken : Option Command → ℕ
untaken None = 0
untaken (Some command) = 1

-- a connection that is here
pub record IsHere (v : ConnectionsView) (c : ConnectionView) : Type 0 where
  pub below : c.number < v.next
  pub reads : dialect_of c.session.reader ≡ v.dialect
  pub since : v.first ≤ c.number
  pub talks : SessionOk v.dialect (WasReplied v.replied c.number) (bytes_of_connection c.number v.heard) c.session (bytes_of_connection c.number v.given)
  -- the commands that were taken come before the one that was not
  pub counted : (e : CommandNumber × Command) → Contains v.taken e → e.0.connection ≡ c.number → e.0.turn + untaken c.session.command ≤ c.session.last

pub record IsConnections (v : ConnectionsView) : Type 0 where
  pub here : (key : ℕ) (c : ConnectionView) → slot_in v.table key ≡ Some c → IsHere v c
  pub one_key : (i j : ℕ) (c d : ConnectionView) → slot_in v.table i ≡ Some c → slot_in v.table j ≡ Some d → c.number ≡ d.number → i ≡ j
  -- each connection, here or gone, was answered in order
  pub answered : (number : ℕ) → IsAnswered v.dialect (WasReplied v.replied number) (bytes_of_connection number v.heard) (bytes_of_connection number v.given)
  pub fresh : (number : ℕ) → v.next ≤ number → (bytes_of_connection number v.heard ≡ []) × (bytes_of_connection number v.given ≡ [])
  -- a command that was taken is the one of its number that the bytes of its connection ask
  pub asked : (e : CommandNumber × Command) → Contains v.taken e → IsAskedIn v.dialect (bytes_of_connection e.0.connection v.heard) e.0.turn e.1
  pub below : (e : CommandNumber × Command) → Contains v.taken e → e.0.connection < v.next
  -- no connection of a lower number than the first might have
  pub least : v.first ≤ v.next
  pub none_before : (number : ℕ) → number < v.first → (bytes_of_connection number v.heard ≡ []) × (bytes_of_connection number v.given ≡ [])
  pub since : (e : CommandNumber × Command) → Contains v.taken e → v.first ≤ e.0.connection
  -- each command is taken once
  pub once : (i j : ℕ) (a b : CommandNumber × Command) → slice_get v.taken i ≡ Some a → slice_get v.taken j ≡ Some b → a.0.connection ≡ b.0.connection → a.0.turn ≡ b.0.turn → i ≡ j
