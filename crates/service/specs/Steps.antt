-- What proxies wait for, and how a command is asked.
use Rattle.std.specs.Prelude.{◌≡◌, ◌⊎◌, ℕ, ◌-◌, ◌≤◌, ◌==◌, ◌&&◌, Bool, false, List, [], ◌∷◌, ◌++◌, Option, Some, None, Contains, slice_get, slice_set, if◌then◌else◌}
use Rattle.proto.specs.declared.command.Command.{Command}
use Rattle.connections.specs.declared.connections.CommandNumber.{CommandNumber}
use Rattle.connections.specs.declared.slots.ConnectionId.{ConnectionId}
use Rattle.loop_messages.specs.declared.message.Said.{Said}
use Rattle.connections.specs.Connections.{ConnectionsView, AreBefore, AreReplied}
use Rattle.session.specs.declared.session.Ready.{Ready}
use Rattle.connections.specs.Owed.{IsTakenAt, HasNoneToTake}
use Rattle.connections.specs.Slots.{is_here, slot_in, HasSameOthers}
use Rattle.ensemble.specs.declared.noted.Noted.TheVariants as noted
use Rattle.ensemble.specs.Nodes.{size_of}
use Rattle.ensemble.specs.Ensemble.{EnsembleView, IsLogged}
use Rattle.service.specs.declared.assignment.Assignment.{Assignment}
use Rattle.service.specs.declared.assignment.Outstanding.{Outstanding}
use Rattle.service.specs.declared.asking.Asking.{Asking}
use Rattle.service.specs.declared.asking.Asking.TheVariants.{Nothing, Asked, Failed}
use Rattle.service.specs.Service.{WaitsAt, Waits, given_entry, passed_entry}
use Rattle.service.specs.Owed.{WaitsNow}

abbrev pub NoneWaits : List (Option Outstanding) → Type 0
NoneWaits waiting = (a : Assignment) → Waits waiting a → ⊥

abbrev pub is_request_of : ℕ → ℕ → Option Outstanding → Bool
is_request_of proxy number None = false
is_request_of proxy number (Some o) = (o.assignment.proxy == proxy) && (o.assignment.number == number)

-- ---- one slot

abbrev pub assignment_of : Option Outstanding → Option Assignment
assignment_of None = None
assignment_of (Some o) = Some o.assignment

-- with where its connection is
abbrev pub owed_of : Option Outstanding → Option (ℕ × Assignment)
owed_of None = None
owed_of (Some o) = Some (o.key, o.assignment)

-- what is there is taken, if it is this request
abbrev pub TakesOne : ℕ → ℕ → Option Outstanding → Option Outstanding → Option Outstanding → Type 0
TakesOne proxy number slot now result = (result ≡ (if is_request_of proxy number slot then slot else None)) × (now ≡ (if is_request_of proxy number slot then None else slot))

abbrev pub TakesWaitIn : ℕ → ℕ → ℕ → List (Option Outstanding) → List (Option Outstanding) → Option Outstanding → Option (Option Outstanding) → Type 0
TakesWaitIn at proxy number old new result None = (new ≡ old) × (result ≡ None)
TakesWaitIn at proxy number old new result (Some slot) = (now : Option Outstanding) × TakesOne proxy number slot now result × (new ≡ slice_set old at now)

abbrev pub TakesWaitAt : ℕ → ℕ → ℕ → List (Option Outstanding) → List (Option Outstanding) → Option Outstanding → Type 0
TakesWaitAt at proxy number old new result = TakesWaitIn at proxy number old new result (slice_get old at)

-- the slot has the same assignment, of a connection at the same key
abbrev pub SetsWaitIn : ℕ → List (Option Outstanding) → List (Option Outstanding) → Option (Option Outstanding) → Type 0
SetsWaitIn at old new None = new ≡ old
SetsWaitIn at old new (Some slot) = (now : Option Outstanding) × (owed_of now ≡ owed_of slot) × (new ≡ slice_set old at now)

abbrev pub SetsWaitAt : ℕ → List (Option Outstanding) → List (Option Outstanding) → Type 0
SetsWaitAt at old new = SetsWaitIn at old new (slice_get old at)

-- ---- all slots

-- no proxy waits for what it did not wait for
abbrev pub KeepsWaits : List (Option Outstanding) → List (Option Outstanding) → Type 0
KeepsWaits old new = (i : ℕ) (a : Assignment) → WaitsAt new i a → WaitsAt old i a

-- its proxy waits for this
abbrev pub AddsWait : List (Option Outstanding) → Assignment → List (Option Outstanding) → Type 0
AddsWait old added new = (i : ℕ) (a : Assignment) → WaitsAt new i a → WaitsAt old i a ⊎ ((a ≡ added) × (i ≡ added.proxy - 1))

-- one waits no more, for this
abbrev pub EndsWait : List (Option Outstanding) → ℕ → ℕ → List (Option Outstanding) → Option Outstanding → Type 0
EndsWait old proxy number new None = KeepsWaits old new
EndsWait old proxy number new (Some o) = KeepsWaits old new × Waits old o.assignment × (o.assignment.proxy ≡ proxy) × (o.assignment.number ≡ number)

-- ---- a command is asked

pub record HasSameBytes (v now : ConnectionsView) : Type 0 where
  pub dialect : now.dialect ≡ v.dialect
  pub since : now.first ≡ v.first
  pub heard : now.heard ≡ v.heard
  pub given : now.given ≡ v.given
  pub passed : now.passed ≡ v.passed
  pub replied : now.replied ≡ v.replied

-- what was taken before still is
abbrev pub KeepsTaken : ConnectionsView → ConnectionsView → Type 0
KeepsTaken v now = (e : CommandNumber × Command) → Contains v.taken e → Contains now.taken e

-- the command of the connection was asked of the proxy
pub record IsAskedOf (at : ConnectionId) (proxy : ℕ) (v now : ConnectionsView) (e f : EnsembleView) (a : Assignment) : Type 0 where
  pub of_connection : a.connection ≡ at.number
  pub of_proxy : a.proxy ≡ proxy
  pub command : Command
  pub quiet : Bool
  pub taken : now.taken ≡ v.taken ++ (record { connection = at.number; turn = a.turn }, command) ∷ []
  pub first : AreBefore v.taken at.number a.turn
  pub earlier : AreReplied v.replied at.number a.turn
  pub logged : IsLogged e.asked proxy a.number command quiet f.asked
  pub counted : e.refused ≤ f.refused
  pub size : size_of f.nodes ≡ size_of e.nodes
  pub answered : f.answered ≡ e.answered
  pub found : f.found ≡ e.found
  pub ordered : f.order ≡ e.order ++ ((proxy, a.number), noted.Asked) ∷ []
  pub bytes : HasSameBytes v now
  pub ready : Ready
  pub there : IsTakenAt at v.table now.table ready
  pub turn_is : ready.turn ≡ a.turn
  pub others : HasSameOthers at.key v.table now.table

-- no command of the connection was taken, or it is not here any more
abbrev pub TakesNone : ConnectionId → ConnectionsView → ConnectionsView → Type 0
TakesNone at v now = (now.taken ≡ v.taken) ⊎ (is_here at.number now.table at.key ≡ false)

-- nothing was asked
pub record AsksNothing (v now : ConnectionsView) (e f : EnsembleView) : Type 0 where
  pub dialect : now.dialect ≡ v.dialect
  pub since : now.first ≡ v.first
  pub taken : KeepsTaken v now
  pub same : f ≡ e
  pub heard : now.heard ≡ v.heard
  pub replied : now.replied ≡ v.replied

abbrev pub AsksFor : ConnectionId → ℕ → ConnectionsView → EnsembleView → ConnectionsView → EnsembleView → Asking → Type 0
AsksFor at proxy v e now f Nothing = AsksNothing v now e f × (now.given ≡ v.given) × (now.passed ≡ v.passed) × TakesNone at v now × (now ≡ v) × HasNoneToTake at v.table
AsksFor at proxy v e now f (Asked a) = IsAskedOf at proxy v now e f a
AsksFor at proxy v e now f (Failed said) = AsksNothing v now e f × (now.given ≡ v.given ++ given_entry said ∷ []) × (now.passed ≡ v.passed ++ passed_entry said ∷ []) × HasSameOthers at.key v.table now.table × (slot_in now.table at.key ≡ None)

-- the connection leaves
pub record LeavesFor (v now : ConnectionsView) : Type 0 where
  pub dialect : now.dialect ≡ v.dialect
  pub since : now.first ≡ v.first
  pub taken : now.taken ≡ v.taken
  pub heard : now.heard ≡ v.heard
  pub replied : now.replied ≡ v.replied

-- what a connection that leaves for want of memory is told
abbrev pub Fails : ConnectionId → ConnectionsView → ConnectionsView → Said → Type 0
Fails at v now said = LeavesFor v now × (now.given ≡ v.given ++ given_entry said ∷ []) × (now.passed ≡ v.passed ++ passed_entry said ∷ []) × HasSameOthers at.key v.table now.table × (slot_in now.table at.key ≡ None)

-- what came of it for the connection at this key is kept: what proxies wait for, which command was asked, and what is given
abbrev pub Settles : ℕ → Asking → List (Option Outstanding) → List (Option Outstanding) → List Assignment → List Assignment → List Said → List Said → Type 0
Settles key Nothing old new before now said said_now = (new ≡ old) × (now ≡ before) × (said_now ≡ said)
Settles key (Asked a) old new before now said said_now = AddsWait old a new × (now ≡ before ++ a ∷ []) × (said_now ≡ said) × WaitsNow key a old new
Settles key (Failed given) old new before now said said_now = (new ≡ old) × (now ≡ before) × (said_now ≡ said ++ given ∷ [])
