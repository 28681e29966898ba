-- What is between the event loop and the service: what it hands in, and what it hands out.
use Rattle.std.specs.Prelude.{◌≡◌, ◌≤◌, ◌⊎◌, ℕ, Bool, List, [], ◌∷◌, ◌++◌, true, false, map, Some, Result, Ok, Err, refl}
use Rattle.std.specs.List.{AllZip}
use Rattle.std.specs.Coded.{Coded, code_by, coded×, coded_list}
use Rattle.base.specs.declared.fault.Fault.{Fault}
use Rattle.grammar.specs.Reads.{with_mark}
use Rattle.connections.specs.Connections.{HasSameLogs}
use Rattle.connections.specs.History.{moment_as}
use Rattle.connections.specs.Connection.{new_connection}
use Rattle.connections.specs.Slots.{slot_in, is_here, left_at, written_at, HasSameOthers, IsGrown}
use Rattle.connections.specs.Told.{IsToldAt}
use Rattle.loop_messages.specs.declared.message.Heard.{Heard}
use Rattle.loop_messages.specs.declared.message.Heard.TheVariants.{Came, Bytes, Written, Left}
use Rattle.loop_messages.specs.declared.message.Said.{Said}
use Rattle.service.specs.Service.{ServiceView, HasSameRequests, HasSameSize, IsSameProcess, RestsUnlessRefused, Hears, given_entry, passed_entry}
use Rattle.service.specs.Told.{AreTold, LeaversAreTold, UnlessRefused, AsksWhatWaits}
use Rattle.server.specs.declared.answering.Lost.{Lost}

pub record AnsweringView : Type 0 where
  pub service : ServiceView
  -- what is said, until it is handed out
  pub said : List Said
  -- connections that are to be closed
  pub lost : List Lost

-- it is identified by what it has
abbrev pub answering_code : Coded ServiceView → Coded Said → Coded Lost → Coded AnsweringView
answering_code service said lost =
    code_by ((ServiceView × List Said) × List Lost)
    (coded× (coded× service (coded_list said)) (coded_list lost))
    (λ a. ((a.service, a.said), a.lost))
    (λ p. record { service = p.0.0; said = p.0.1; lost = p.1 })
    (λ _. refl)

-- the connection is to be closed, and is told nothing more
pub record IsLastMessage (key number : ℕ) (said : Said) : Type 0 where
  pub key_is : said.key ≡ key
  pub number_is : said.number ≡ number
  pub nothing : said.bytes.items ≡ []
  pub closes : said.closes ≡ true

-- said behind the rest
pub record JoinsSaid (v : AnsweringView) (said : Said) (now : AnsweringView) : Type 0 where
  pub said_is : now.said ≡ v.said ++ said ∷ []
  pub table : now.service.connections.table ≡ v.service.connections.table

-- there is no memory for it: its connection leaves
pub record IsDropped (v : AnsweringView) (said : Said) (now : AnsweringView) : Type 0 where
  pub said_is : now.said ≡ v.said
  pub table : now.service.connections.table ≡ left_at (record { key = said.key; number = said.number }) v.service.connections.table

-- This is said behind the rest. If there is no memory for it its connection leaves, and nothing is said.
pub record Says (v : AnsweringView) (said : Said) (now : AnsweringView) : Type 0 where
  pub logs : HasSameLogs v.service.connections now.service.connections
  pub requests : HasSameRequests v.service now.service
  pub becomes : JoinsSaid v said now ⊎ IsDropped v said now

-- nothing is said, and nothing of a connection is heard or given
pub record SaysNothing (v now : AnsweringView) : Type 0 where
  pub said_is : now.said ≡ v.said
  pub logs : HasSameLogs v.service.connections now.service.connections
  pub requests : HasSameRequests v.service now.service

-- The service is told that a connection comes, and takes it or does not. Each other one is as it was.
pub record HandsCame (key number : ℕ) (v now : AnsweringView) : Type 0 where
  pub nothing : SaysNothing v now
  pub becomes : (slot_in now.service.connections.table key ≡ Some (new_connection v.service.connections.dialect number)) ⊎ IsGrown v.service.connections.table now.service.connections.table
  pub others : HasSameOthers key v.service.connections.table now.service.connections.table

pub record AreWritten (key number count : ℕ) (v between now : AnsweringView) : Type 0 where
  pub table : between.service.connections.table ≡ written_at (record { key = key; number = number }) count v.service.connections.table
  pub all : now ≡ between

pub record AreLost (key number : ℕ) (v between now : AnsweringView) : Type 0 where
  pub table : between.service.connections.table ≡ left_at (record { key = key; number = number }) v.service.connections.table
  pub last : Said
  pub is_last : IsLastMessage key number last
  pub says : Says between last now

-- The service is told that so much was written. If it has no memory for one more in its queue the connection leaves it,
-- and is told that it is closed.
pub record HandsWritten (key number count : ℕ) (v now : AnsweringView) : Type 0 where
  pub between : AnsweringView
  pub nothing : SaysNothing v between
  pub becomes : AreWritten key number count v between now ⊎ AreLost key number v between now

-- the service is told that the connection has left, and nothing is said
pub record HandsLeft (key number : ℕ) (v now : AnsweringView) : Type 0 where
  pub nothing : SaysNothing v now
  pub table : now.service.connections.table ≡ left_at (record { key = key; number = number }) v.service.connections.table

-- what a connection is told after the service heard a piece of it
abbrev pub IsSaidOf : ℕ → ℕ → Result Said Fault → Said → Type 0
IsSaidOf key number (Ok said) told = told ≡ said
IsSaidOf key number (Err fault) told = IsLastMessage key number told

abbrev pub SaysWhat : AnsweringView → ℕ → ℕ → Result Said Fault → AnsweringView → Type 0
SaysWhat v key number (Ok said) now = Says v said now
SaysWhat v key number (Err fault) now = (last : Said) × IsLastMessage key number last × Says v last now

-- The connection is told what the service says to it, as it is then; if the service failed it has left.
abbrev pub IsToldAfter : ℕ → ℕ → ServiceView → ServiceView → Result Said Fault → Type 0
IsToldAfter key number v now (Ok said) = IsToldAt (record { key = key; number = number }) v.connections.table now.connections.table said
IsToldAfter key number v now (Err fault) = is_here number now.connections.table key ≡ false

-- the bytes of the message, and no others, were handed to the service, under its number, and what the service says to them is said
pub record HandsBytes (key number : ℕ) (piece : List ℕ) (v now : AnsweringView) : Type 0 where
  pub between : AnsweringView
  pub same_said : between.said ≡ v.said
  pub result : Result Said Fault
  -- with a limit, whether it was reached comes with the bytes
  pub full : Bool
  pub hears : Hears key number (with_mark v.service.connections.dialect full piece) v.service.connections between.service.connections result
  pub requests : HasSameRequests v.service between.service
  pub told : IsToldAfter key number v.service between.service result
  pub says : SaysWhat between key number result now

-- one message of the event loop is handed in
abbrev pub HandsIn : Heard → AnsweringView → AnsweringView → Type 0
HandsIn (Came key number) v now = HandsCame key number v now
HandsIn (Bytes key number bytes) v now = HandsBytes key number bytes.items v now
HandsIn (Written key number count) v now = HandsWritten key number count v now
HandsIn (Left key number) v now = HandsLeft key number v now

-- all of them, in order
abbrev pub HandsInAll : List Heard → AnsweringView → AnsweringView → Type 0
HandsInAll [] v now = now ≡ v
HandsInAll (one ∷ more) v now = (between : AnsweringView) × HandsIn one v between × HandsInAll more between now

-- nothing was said, and the service is as it was
pub record IsSameBut (v now : AnsweringView) : Type 0 where
  pub service : now.service ≡ v.service
  pub said_is : now.said ≡ v.said

-- each of these is said, in order
abbrev pub SaysEach : AnsweringView → List Said → AnsweringView → Type 0
SaysEach v [] now = IsSameBut v now
SaysEach v (one ∷ more) now = (between : AnsweringView) × Says v one between × SaysEach between more now

-- Each connection that was lost is told so, in order, and is told nothing more.
abbrev pub Closings : AnsweringView → AnsweringView → Type 0
Closings v now = (closings : List Said) × AllZip (λ of said. IsLastMessage of.key of.number said) v.lost closings × SaysEach v closings now

-- The service works at this moment, and this is what it gives: each thing at the key of its connection, which is here afterwards unless it is told to close. Its process, `u` and the number of its nodes stay. Unless something was refused it asks what waits, and then its replicas are at rest.
pub record ServiceWorks (moment : ℕ) (v : ServiceView) (given : List Said) (now : ServiceView) : Type 0 where
  pub given_is : now.connections.given ≡ v.connections.given ++ map given_entry given
  pub passed : now.connections.passed ≡ (v.connections.passed ++ moment_as moment ∷ []) ++ map passed_entry given
  pub heard : now.connections.heard ≡ v.connections.heard
  pub told : AreTold v.connections.table now.connections.table given
  pub leavers : UnlessRefused v.replicas.refused now.replicas.refused (LeaversAreTold v.connections.table now.connections.table given)
  pub asks : UnlessRefused v.replicas.refused now.replicas.refused (AsksWhatWaits v now)
  pub process : IsSameProcess v now
  pub counted : v.replicas.refused ≤ now.replicas.refused
  pub size : HasSameSize v.replicas now.replicas
  pub rest : RestsUnlessRefused v.replicas now.replicas

-- Connections that were lost are told that they are closed. Then the service works at this moment, and each thing that it gives is said once, in order.
pub record DoesWhatIsDue (moment : ℕ) (v : AnsweringView) (now : AnsweringView) : Type 0 where
  pub closed : AnsweringView
  pub closes : Closings v closed
  pub given : List Said
  pub worked : AnsweringView
  pub works : ServiceWorks moment closed.service given worked.service
  pub waits : worked.said ≡ closed.said
  pub says : SaysEach worked given now

-- The same, and all that was said since this was last done is handed out.
pub record HandsOut (moment : ℕ) (v : AnsweringView) (out : List Said) (now : AnsweringView) : Type 0 where
  pub full : AnsweringView
  pub runs : DoesWhatIsDue moment v full
  pub out_is : out ≡ full.said
  pub service : now.service ≡ full.service
  pub none : now.said ≡ []
