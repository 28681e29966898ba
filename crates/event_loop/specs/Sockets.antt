-- The table of sockets: what is said reaches the socket that it is for, and what a visit tells is of the socket that is visited.
use Rattle.std.specs.Prelude.{◌≡◌, ◌≢◌, ◌⊎◌, ◌+◌, ℕ, Bool, ◌<◌, true, false, List, [], ◌∷◌, ◌++◌, length, min, ◌^◌, ◌-◌, Option, Some, None, ◌↔◌, Contains}
use Rattle.slab.specs.Slab.{Slab, get}
use Rattle.loop_messages.specs.declared.message.Heard.{Heard}
use Rattle.event_loop.specs.declared.leavers.Leaver.{Leaver}
use Rattle.loop_messages.specs.declared.message.Said.{Said}
use Rattle.event_loop.specs.declared.socket.Readiness.{Readiness}
use Rattle.event_loop.specs.Idle.{IdleView, HasBeenIdle}
use Rattle.event_loop.specs.Socket.{SocketView, Tells, Leaves, SocketRests, IsSocketOver, IsQuiet, SocketVisits}

pub record VisitsView : Type 0 where
  -- the keys of the sockets that are to be visited
  pub keys : List ℕ
  -- memory for one more ran out once
  pub has_lost : Bool

pub record SocketsView : Type 0 where
  -- the sockets that are here, each under its key
  pub all : Slab SocketView
  pub visits : VisitsView
  -- the number of the next one
  pub next : ℕ

-- a socket that is here has a number that was given. It is to be visited, or nothing is to be done for it until an event
-- comes or the service says something
pub record IsEntry (key : ℕ) (visits : VisitsView) (next : ℕ) (s : SocketView) : Type 0 where
  pub number : s.number < next
  pub listed : s.is_listed ≡ true → Contains visits.keys key
  pub rests : visits.has_lost ≡ false → s.is_listed ≡ false → SocketRests s

abbrev pub IsSockets : SocketsView → Type 0
IsSockets v = (key : ℕ) (s : SocketView) → get v.all key ≡ Some s → IsEntry key v.visits v.next s

-- nothing but whether it is listed has changed
abbrev pub IsSameButListed : SocketView → SocketView → Type 0
IsSameButListed s t = t ≡ record s { is_listed = t.is_listed }

-- a socket was listed, once, unless memory for that ran out
pub record Lists (key : ℕ) (visits : VisitsView) (s : SocketView) (more : VisitsView) (t : SocketView) : Type 0 where
  pub others : IsSameButListed s t
  pub kept : (k : ℕ) → Contains visits.keys k → Contains more.keys k
  pub here : (s.is_listed ≡ true → Contains visits.keys key) → t.is_listed ≡ true → Contains more.keys key
  pub lost : t.is_listed ≡ false → more.has_lost ≡ true
  pub before : more.has_lost ≡ false → visits.has_lost ≡ false

-- a socket took what was said, at the end of what was said before, or it has ended
pub record SocketHears (old : SocketView) (one : Said) (new : SocketView) : Type 0 where
  pub said : ((new.traffic.said ≡ old.traffic.said ++ one.bytes.items) × (new.traffic.waits ≡ old.traffic.waits ++ one.bytes.items)) ⊎ ((new.has_ended ≡ true) × (new.traffic ≡ old.traffic))
  pub closes : (new.closes ≡ true) ↔ ((old.closes ≡ true) ⊎ (one.closes ≡ true))
  -- it may be read if the service does not wait
  pub outstanding : one.waits ≡ false → new.is_outstanding ≡ false
  pub waits : one.waits ≡ true → new.is_outstanding ≡ old.is_outstanding
  pub untold : new.untold ≡ min (old.untold + length one.bytes.items) (2 ^ 64 - 1)
  pub others : new ≡ record old { traffic = new.traffic; untold = new.untold; is_outstanding = new.is_outstanding; closes = new.closes; has_ended = new.has_ended }

-- it may have been listed then
abbrev pub HearsListed : SocketView → Said → SocketView → Type 0
HearsListed s said t = (heard : SocketView) × SocketHears s said heard × IsSameButListed heard t

-- a socket noted what an event said
pub record Notes (old : SocketView) (ready : Readiness) (new : SocketView) : Type 0 where
  pub ended : (new.has_ended ≡ true) ↔ ((old.has_ended ≡ true) ⊎ (ready.is_broken ≡ true))
  pub closed : (new.is_read_closed ≡ true) ↔ ((old.is_read_closed ≡ true) ⊎ (ready.is_read_closed ≡ true))
  -- a read may give the end of what was sent
  pub readable : (new.is_readable ≡ true) ↔ ((old.is_readable ≡ true) ⊎ (ready.is_readable ≡ true) ⊎ (ready.is_read_closed ≡ true))
  pub writable : (new.is_writable ≡ true) ↔ ((old.is_writable ≡ true) ⊎ (ready.is_writable ≡ true))
  pub others : new ≡ record old { is_readable = new.is_readable; is_writable = new.is_writable; is_read_closed = new.is_read_closed; has_ended = new.has_ended }

-- it may have been listed then
abbrev pub NotesListed : SocketView → Readiness → SocketView → Type 0
NotesListed s ready t = (noted : SocketView) × Notes s ready noted × IsSameButListed noted t

-- the socket of this key and number took what was said, if it is here, and no other one did
pub record IsGiven (old : SocketsView) (said : Said) (new : SocketsView) : Type 0 where
  pub others : (key : ℕ) → key ≢ said.key → get new.all key ≡ get old.all key
  pub unknown : ((s : SocketView) → get old.all said.key ≡ Some s → s.number ≢ said.number) → get new.all said.key ≡ get old.all said.key
  pub joins : (s : SocketView) → get old.all said.key ≡ Some s → s.number ≡ said.number → (t : SocketView) × (get new.all said.key ≡ Some t) × HearsListed s said t
  pub next : new.next ≡ old.next

-- after a visit a socket is here, or it has reported that it is gone
abbrev pub IsVisited : Bool → ℕ → SocketView → Option SocketView → List Heard → List Heard → Type 0
IsVisited may_read key s None before after = (t : SocketView) × Leaves key s t before after × IsSocketOver t × SocketVisits may_read s t
IsVisited may_read key s (Some t) before after = Tells key s t before after × SocketVisits may_read s t

-- the first that is listed, if it is here, was visited, and no other one was
pub record IsVisitOf (may_read : Bool) (key : ℕ) (old new : SocketsView) (before after : List Heard) : Type 0 where
  pub absent : get old.all key ≡ None → after ≡ before
  pub visited : (s : SocketView) → get old.all key ≡ Some s → IsVisited may_read key s (get new.all key) before after
  pub others : (other : ℕ) → other ≢ key → get new.all other ≡ get old.all other
  pub next : new.next ≡ old.next

abbrev pub IsVisitOfListed : Bool → List ℕ → SocketsView → SocketsView → List Heard → List Heard → Type 0
IsVisitOfListed may_read [] old new before after = (new ≡ old) × (after ≡ before)
IsVisitOfListed may_read (key ∷ keys) old new before after = IsVisitOf may_read key old new before after

abbrev pub IsVisitOfFirst : Bool → SocketsView → SocketsView → List Heard → List Heard → Type 0
IsVisitOfFirst may_read old new before after = IsVisitOfListed may_read old.visits.keys old new before after

-- all of these were given, in order
abbrev pub AreAllGiven : SocketsView → List Said → SocketsView → Type 0
AreAllGiven old [] new = new ≡ old
AreAllGiven old (said ∷ rest) new = (between : SocketsView) × IsGiven old said between × AreAllGiven between rest new

-- one socket ended on which nothing had happened for as long as is allowed, and to which nothing was owed
pub record EndsIdle (old : SocketsView) (idle : IdleView) (micros : ℕ) (new : SocketsView) : Type 0 where
  pub one : Leaver
  pub long : HasBeenIdle idle one micros
  pub limited : 0 < idle.limit
  pub socket : SocketView
  pub here : get old.all one.key ≡ Some socket
  pub number : socket.number ≡ one.number
  pub quiet : IsQuiet socket
  pub after : SocketView
  pub there : get new.all one.key ≡ Some after
  pub ends : IsSameButListed (record socket { has_ended = true }) after
  pub others : (other : ℕ) → other ≢ one.key → get new.all other ≡ get old.all other
