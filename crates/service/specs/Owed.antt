-- Who remembers what a connection has outstanding.
use Rattle.std.specs.Prelude.{◌≡◌, ◌⊎◌, ℕ, suc, ◌-◌, ◌≤◌, Bool, false, List, [], ◌∷◌, ◌++◌, Option, Some, None, Contains, slice_get, slice_set, if◌then◌else◌}
use Rattle.proto.specs.declared.command.Command.{Command}
use Rattle.session.specs.declared.session.Awaited.{Awaited}
use Rattle.loop_messages.specs.declared.message.TheConstants.{MOST_UNWRITTEN}
use Rattle.connections.specs.declared.slots.ConnectionId.{ConnectionId}
use Rattle.connections.specs.Connection.{ConnectionView}
use Rattle.connections.specs.Slots.{slot_in, is_here, HasSameOthers}
use Rattle.connections.specs.Owed.{AnswersOn, BecomesAt}
use Rattle.service.specs.declared.assignment.Assignment.{Assignment}
use Rattle.service.specs.declared.assignment.Outstanding.{Outstanding}
use Rattle.service.specs.declared.note.Waiting.{Waiting}

-- the connection waits in the queue for a proxy
pub record IsInQueue (queue : List Waiting) (key number : ℕ) : Type 0 where
  pub waiting : Waiting
  pub there : Contains queue waiting
  pub key_is : waiting.at.key ≡ key
  pub number_is : waiting.at.number ≡ number

-- a proxy waits for the reply to just this command of the connection
pub record IsWaitedFor (pool : List (Option Outstanding)) (key number turn : ℕ) : Type 0 where
  pub slot : ℕ
  pub outstanding : Outstanding
  pub there : slice_get pool slot ≡ Some (Some outstanding)
  pub key_is : outstanding.key ≡ key
  pub number_is : outstanding.assignment.connection ≡ number
  pub turn_is : outstanding.assignment.turn ≡ turn

-- What the connection at this key has outstanding, and whether that was not taken. One that was not taken waits in the queue, or for bytes to be written. One that was taken has a proxy that waits for its reply.
abbrev pub IsRememberedAs : List Waiting → List (Option Outstanding) → ℕ → ConnectionView → Option Awaited → Option Command → Type 0
IsRememberedAs queue pool key c None command = Unit {0}
IsRememberedAs queue pool key c (Some asked) (Some command) = IsInQueue queue key c.number ⊎ (MOST_UNWRITTEN ≤ c.unwritten)
IsRememberedAs queue pool key c (Some asked) None = IsWaitedFor pool key c.number asked.number

abbrev pub IsRemembered : List Waiting → List (Option Outstanding) → ℕ → ConnectionView → Type 0
IsRemembered queue pool key c = IsRememberedAs queue pool key c c.session.outstanding c.session.command

-- nothing that is outstanding is forgotten
abbrev pub Remembers : List Waiting → List (Option Outstanding) → List (Option ConnectionView) → Type 0
Remembers queue pool table = (key : ℕ) (c : ConnectionView) → slot_in table key ≡ Some c → IsRemembered queue pool key c

-- so does this queue of this table, whatever proxies wait for
abbrev pub StillRemembers : List Waiting → List Waiting → List (Option ConnectionView) → List (Option ConnectionView) → Type 0
StillRemembers queue queue_now table table_now = (pool : List (Option Outstanding)) → Remembers queue pool table → Remembers queue_now pool table_now

-- it joins the queue, if it is to
abbrev pub queue_with : Bool → List Waiting → Waiting → List Waiting
queue_with is queue waiting = if is then queue ++ waiting ∷ [] else queue

-- what becomes of the connection of this id, if it is here, as the reply to its command of this number comes
abbrev pub RepliesAt : ConnectionId → ℕ → List (Option ConnectionView) → List (Option ConnectionView) → Type 0
RepliesAt at turn old new = ((new ≡ old) × (is_here at.number old at.key ≡ false)) ⊎ (HasSameOthers at.key old new × BecomesAt (AnswersOn turn) at old new)

-- ---- what proxies wait for

-- the proxy of this number waits for nothing
abbrev pub IsFreeIn : List (Option Outstanding) → ℕ → Type 0
IsFreeIn pool proxy = (i : ℕ) × (proxy ≡ suc i) × (slice_get pool i ≡ Some None)

-- each proxy waits
abbrev pub AllWait : List (Option Outstanding) → Type 0
AllWait pool = (i : ℕ) → slice_get pool i ≡ Some None → ⊥

-- some proxy waits
abbrev pub OneWaits : List (Option Outstanding) → Type 0
OneWaits pool = (i : ℕ) × (o : Outstanding) × (slice_get pool i ≡ Some (Some o))

-- the proxy of the assignment waits for the reply to it, for the connection at this key
abbrev pub WaitsNow : ℕ → Assignment → List (Option Outstanding) → List (Option Outstanding) → Type 0
WaitsNow key a old new = (o : Outstanding) × (o.key ≡ key) × (o.assignment ≡ a) × (new ≡ slice_set old (a.proxy - 1) (Some o))

-- one waits no more, for this
abbrev pub EndsWaitAt : List (Option Outstanding) → Outstanding → List (Option Outstanding) → Type 0
EndsWaitAt old o new = (i : ℕ) × (slice_get old i ≡ Some (Some o)) × (new ≡ slice_set old i None)

-- what a proxy waits for it still does
abbrev pub KeepsOwed : List (Option Outstanding) → List (Option Outstanding) → Type 0
KeepsOwed old new = (key number turn : ℕ) → IsWaitedFor old key number turn → IsWaitedFor new key number turn
