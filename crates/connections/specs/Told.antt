-- What a connection is told, next to how it is then.
use Rattle.std.specs.Prelude.{◌≡◌, ◌⊎◌, ℕ, ◌==◌, ◌&&◌, Bool, true, false, List, [], Option, Some, None, is_some, not, if◌then◌else◌}
use Rattle.proto.specs.declared.reply.Reply as replies
use Rattle.connections.specs.declared.slots.ConnectionId.{ConnectionId}
use Rattle.loop_messages.specs.declared.message.Said.{Said}
use Rattle.connections.specs.Connection.{ConnectionView, IsFedTo, ConnectionAnswers}
use Rattle.connections.specs.Slots.{slot_in, is_here, HasSameOthers}

-- the connection of this number is there, and a command of it is outstanding, taken or not
abbrev pub is_outstanding : ℕ → Option ConnectionView → Bool
is_outstanding number None = false
is_outstanding number (Some c) = (c.number == number) && is_some c.session.outstanding

abbrev pub is_outstanding_in : ℕ → List (Option ConnectionView) → ℕ → Bool
is_outstanding_in number table key = is_outstanding number (slot_in table key)

-- The connection of this id is told this: it is here afterwards just if it is not told to close, and then it is told whether a command of it is outstanding. No other connection came or went.
pub record IsToldAt (at : ConnectionId) (old new : List (Option ConnectionView)) (said : Said) : Type 0 where
  pub key : said.key ≡ at.key
  pub number : said.number ≡ at.number
  pub was_here : is_here at.number old at.key ≡ true
  pub stays : is_here at.number new at.key ≡ not said.closes
  pub waits : said.closes ≡ false → said.waits ≡ is_outstanding_in at.number new at.key
  pub alone : (d : ConnectionView) → slot_in new at.key ≡ Some d → d.number ≡ at.number
  pub others : HasSameOthers at.key old new

-- It is told how this connection is, which it became: it is told to close just if that gives nothing more, and that it waits just if a command of that is outstanding. If it closes it has left, and else it is at its key.
pub record IsToldOf (at : ConnectionId) (table : List (Option ConnectionView)) (c : ConnectionView) (said : Said) : Type 0 where
  pub number : c.number ≡ at.number
  pub closes : said.closes ≡ c.session.closed
  pub waits : said.waits ≡ is_some c.session.outstanding
  pub there : slot_in table at.key ≡ (if not said.closes then Some c else None)

-- it failed: it is given nothing, is told to close, and has left
pub record IsToldToLeave (at : ConnectionId) (table : List (Option ConnectionView)) (said : Said) : Type 0 where
  pub nothing : said.bytes.items ≡ []
  pub closes : said.closes ≡ true
  pub waits : said.waits ≡ false
  pub gone : slot_in table at.key ≡ None

-- it read this piece, is given what follows from that, and is told how it is then
pub record IsFedAt (at : ConnectionId) (piece : List ℕ) (old new : List (Option ConnectionView)) (said : Said) : Type 0 where
  pub was : ConnectionView
  pub there : slot_in old at.key ≡ Some was
  pub now : ConnectionView
  pub reads : IsFedTo was piece now said.bytes.items
  pub told : IsToldOf at new now said

-- it took the reply to its command of this number, is given what follows from that, and is told how it is then; or it failed
pub record IsAnsweredAt (at : ConnectionId) (turn : ℕ) (reply : replies.Reply) (old new : List (Option ConnectionView)) (said : Said) : Type 0 where
  pub was : ConnectionView
  pub there : slot_in old at.key ≡ Some was
  pub now : ConnectionView
  pub told : (ConnectionAnswers was turn reply now said.bytes.items × IsToldOf at new now said) ⊎ IsToldToLeave at new said
