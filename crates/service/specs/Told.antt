-- What connections are told when the service works.
use Rattle.std.specs.Prelude.{◌≡◌, ◌≢◌, ◌⊎◌, ℕ, ◌-◌, ◌^◌, ◌≤◌, ◌<◌, ◌+◌, length, true, false, List, [], ◌∷◌, ◌++◌, Option, Some, Contains}
use Rattle.connections.specs.declared.slots.ConnectionId.{ConnectionId}
use Rattle.loop_messages.specs.declared.message.Said.{Said}
use Rattle.connections.specs.Connection.{ConnectionView}
use Rattle.connections.specs.Slots.{slot_in, is_here}
use Rattle.connections.specs.Told.{is_outstanding_in, IsToldAt}
use Rattle.service.specs.declared.asking.Asking.{Asking}
use Rattle.service.specs.declared.asking.Asking.TheVariants.{Nothing, Asked, Failed}
use Rattle.service.specs.declared.working.TheConstants.{MOST_PASSES}
use Rattle.service.specs.Service.{ServiceView}
use Rattle.service.specs.Owed.{AllWait}

-- none of these is for the connection of this number
abbrev pub AreOfOthers : ℕ → List Said → Type 0
AreOfOthers number said = (s : Said) → Contains said s → s.number ≢ number

-- the last of these for its connection
abbrev pub IsLastTold : Said → List Said → Type 0
IsLastTold s [] = ⊥
IsLastTold s (t ∷ said) = IsLastTold s said ⊎ ((t ≡ s) × AreOfOthers s.number said)

-- Connections are told these, in order, and nobody else came or changed what is outstanding.
pub record AreTold (old new : List (Option ConnectionView)) (said : List Said) : Type 0 where
  -- each is for the key at which its connection was
  pub there : (s : Said) → Contains said s → is_here s.number old s.key ≡ true
  -- who is told to close has left
  pub closed : (s : Said) → Contains said s → s.closes ≡ true → is_here s.number new s.key ≡ false
  -- who is here was told last whether a command of it is outstanding now
  pub waits : (s : Said) → IsLastTold s said → is_here s.number new s.key ≡ true → s.waits ≡ is_outstanding_in s.number new s.key
  -- of who is told nothing a command is outstanding if one was
  pub untold : (key : ℕ) (c : ConnectionView) → slot_in new key ≡ Some c → AreOfOthers c.number said → is_outstanding_in c.number new key ≡ is_outstanding_in c.number old key
  -- who is here was here
  pub none_comes : (key : ℕ) (c : ConnectionView) → slot_in new key ≡ Some c → is_here c.number old key ≡ true

-- the connection is told to close
pub record IsToldToClose (key number : ℕ) (said : List Said) : Type 0 where
  pub told : Said
  pub there : Contains said told
  pub key_is : told.key ≡ key
  pub number_is : told.number ≡ number
  pub closes : told.closes ≡ true

-- who was here is here, or is told to close
abbrev pub LeaversAreTold : List (Option ConnectionView) → List (Option ConnectionView) → List Said → Type 0
LeaversAreTold old new said = (key : ℕ) (c : ConnectionView) → slot_in old key ≡ Some c → (is_here c.number new key ≡ true) ⊎ IsToldToClose key c.number said

-- this holds if nothing more was refused
abbrev pub UnlessRefused : ℕ → ℕ → Type 0 → Type 0
UnlessRefused refused now Holds = now ≡ refused → refused < 2 ^ 64 - 1 → Holds

-- connections are told some more. Nobody leaves without being told so, if nothing more was refused
abbrev pub TellsIn : List (Option ConnectionView) → ℕ → List Said → List (Option ConnectionView) → ℕ → List Said → Type 0
TellsIn table refused said table_now refused_now said_now =
    (more : List Said) × (said_now ≡ said ++ more) × AreTold table table_now more × UnlessRefused refused refused_now (LeaversAreTold table table_now more)

abbrev pub TellsMore : ServiceView → List Said → ServiceView → List Said → Type 0
TellsMore v said now said_now = TellsIn v.connections.table v.replicas.refused said now.connections.table now.replicas.refused said_now

-- the connection of this id is told this, or was not here, and then nothing is said
abbrev pub MayTell : ConnectionId → List (Option ConnectionView) → List (Option ConnectionView) → List Said → List Said → Type 0
MayTell at old new said said_now = ((new ≡ old) × (said_now ≡ said)) ⊎ ((given : Said) × (said_now ≡ said ++ given ∷ []) × IsToldAt at old new given)

-- no command waits in the queue, or each proxy waits for a reply
abbrev pub AsksAll : ServiceView → Type 0
AsksAll v = (v.queue ≡ []) ⊎ AllWait v.waiting

-- so many replies or more came back
abbrev pub HasMoreAnswers : ℕ → ServiceView → ServiceView → Type 0
HasMoreAnswers count v now = length v.answered + count ≤ length now.answered

-- no command waits in the queue while a proxy is free, or as many replies came back as there are passes in one call
abbrev pub AsksWhatWaits : ServiceView → ServiceView → Type 0
AsksWhatWaits v now = AsksAll now ⊎ HasMoreAnswers MOST_PASSES v now

-- if there was no memory to ask a command of the connection of this id, it is told so
abbrev pub IsToldIfFailed : ConnectionId → List (Option ConnectionView) → List (Option ConnectionView) → Asking → Type 0
IsToldIfFailed at old new Nothing = Unit {0}
IsToldIfFailed at old new (Asked a) = Unit {0}
IsToldIfFailed at old new (Failed said) = IsToldAt at old new said
