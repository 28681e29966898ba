-- What a connection has outstanding, before and after calls.
use Rattle.std.specs.Prelude.{◌≡◌, ◌⊎◌, ℕ, ◌≤◌, true, false, List, Option, Some, None, is_some}
use Rattle.session.specs.Session.{is_outstanding_as}
use Rattle.session.specs.declared.session.Ready.{Ready}
use Rattle.loop_messages.specs.declared.message.TheConstants.{MOST_UNWRITTEN}
use Rattle.connections.specs.declared.slots.ConnectionId.{ConnectionId}
use Rattle.connections.specs.Connection.{ConnectionView, IsTaken}
use Rattle.connections.specs.Slots.{slot_in}

-- the same command is outstanding, and is taken or not as before
abbrev pub HasSameOutstanding : ConnectionView → ConnectionView → Type 0
HasSameOutstanding c d = (d.session.outstanding ≡ c.session.outstanding) × (d.session.command ≡ c.session.command)

-- it has a command to be taken
abbrev pub HasCommand : ConnectionView → Type 0
HasCommand d = is_some d.session.command ≡ true

-- what becomes of a connection that reads
pub record ReadsFurther (c d : ConnectionView) : Type 0 where
  pub number : d.number ≡ c.number
  -- if too much waited to be written it still does
  pub behind : MOST_UNWRITTEN ≤ c.unwritten → MOST_UNWRITTEN ≤ d.unwritten
  pub owes : HasSameOutstanding c d ⊎ HasCommand d

-- What becomes of a connection that takes the reply to its command of this number. If nothing changes then its command was not taken, or is another one.
pub record AnswersOn (turn : ℕ) (c d : ConnectionView) : Type 0 where
  pub number : d.number ≡ c.number
  -- if too much waited to be written it still does
  pub behind : MOST_UNWRITTEN ≤ c.unwritten → MOST_UNWRITTEN ≤ d.unwritten
  pub owes : (HasSameOutstanding c d × (HasCommand c ⊎ (is_outstanding_as c.session.outstanding turn ≡ false))) ⊎ (d.session.outstanding ≡ None) ⊎ HasCommand d

-- who is at the key then was there, is the connection of this number, and became so
abbrev pub BecomesAt : (ConnectionView → ConnectionView → Type 0) → ConnectionId → List (Option ConnectionView) → List (Option ConnectionView) → Type 0
BecomesAt Becomes at old new = (d : ConnectionView) → slot_in new at.key ≡ Some d → (c : ConnectionView) × (slot_in old at.key ≡ Some c) × (c.number ≡ at.number) × Becomes c d

-- the command of the connection was taken
pub record IsTakenAt (at : ConnectionId) (old new : List (Option ConnectionView)) (ready : Ready) : Type 0 where
  pub was : ConnectionView
  pub next : ConnectionView
  pub at_key : slot_in old at.key ≡ Some was
  pub number : was.number ≡ at.number
  pub is : IsTaken was ready next
  pub there : slot_in new at.key ≡ Some next

-- if the connection is here it has no command to be taken, or too much of it waits to be written
abbrev pub HasNoneToTake : ConnectionId → List (Option ConnectionView) → Type 0
HasNoneToTake at table = (c : ConnectionView) → slot_in table at.key ≡ Some c → c.number ≡ at.number → (c.session.command ≡ None) ⊎ (MOST_UNWRITTEN ≤ c.unwritten)
