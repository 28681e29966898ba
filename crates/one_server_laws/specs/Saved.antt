-- What the executors of worlds have saved, and the states that they came to have.
use Rattle.std.specs.Prelude.{◌≡◌, ℕ, Bool, List, [], ◌∷◌, Option, None, Some, Contains, slice_get}
use Rattle.states.specs.State.{StateView}
use Rattle.executor.specs.Kept.{AreKept}
use Rattle.executor.specs.Round.{runners}
use Rattle.executor.specs.Work.{TentativeView}
use Rattle.exec_lines.specs.State.{ExecutorState}
use Rattle.exec_lines.specs.Record.{executor_text}
use Rattle.exec_node.specs.Executor.{ExecutorView}
use Rattle.run_laws.specs.Run.{Executed}
use Rattle.wire.specs.Distinct.{Distinct}
use Rattle.run_laws.specs.Texts.{IsTextOf}
use Rattle.custody_laws.specs.Durable.{Durable, first_durable, executed_of, In, Keeps}
use Rattle.slots.specs.Slot.{Slot}
use Rattle.slots.specs.declared.slot.Slot.TheVariants.{Up, Down, Gone}
use Rattle.worlds.specs.World.{WorldView}

-- what is saved of a state
abbrev pub saved_of : ExecutorState → Durable
saved_of s = record { known = s.known; standing = s.standing; have = s.chain.have; chain = s.chain.members }

-- the state of an executor that is just up again with this
abbrev pub up_again : Durable → ExecutorState
up_again x = record { known = x.known; standing = x.standing; chain = record { have = x.have; members = x.chain }; gather = []; work = None }

-- each member is over just the state before it, and has the replies that its sessions keep
abbrev pub AreLinked : StateView → List TentativeView → Type 0
AreLinked base [] = Unit {0}
AreLinked base (t ∷ ts) = (t.before ≡ base) × AreKept t.after.sessions (runners t.before t.batch) t.replies × AreLinked t.after ts

-- The record of an executor spells this.
pub record IsSpelled (u id : ℕ) (record_is : Option (List ℕ)) (x : Durable) : Type 0 where
  pub text : record_is ≡ Some (executor_text u id (up_again x))
  -- the text of a member is that of its changes alone
  pub linked : AreLinked x.have x.chain

-- what an executor has saved: by its state while it is up, and else by its record
abbrev pub IsSavedIn : ℕ → ℕ → Slot ExecutorView → Durable → Type 0
IsSavedIn u id (Up e) x = saved_of e.state ≡ x
IsSavedIn u id (Down kept) x = IsSpelled u id kept.saved x
IsSavedIn u id (Gone kept) x = IsSpelled u id kept.saved x

pub record HasSaved (w : WorldView) (id : ℕ) (x : Durable) : Type 0 where
  pub slot : Slot ExecutorView
  pub there : slice_get w.executors id ≡ Some slot
  pub saved : IsSavedIn w.u id slot x

-- what is found in a record: what it spells, or the first state if there is none
abbrev pub FoundIn : ℕ → ℕ → Option (List ℕ) → Durable → Type 0
FoundIn u id None x = x ≡ first_durable
FoundIn u id (Some bytes) x = IsSpelled u id (Some bytes) x

-- what an executor has, up, down or lost: by its state while it is up, and else what is found in its record
abbrev pub IsHadIn : ℕ → ℕ → Slot ExecutorView → Durable → Type 0
IsHadIn u id (Up e) x = saved_of e.state ≡ x
IsHadIn u id (Down kept) x = FoundIn u id kept.saved x
IsHadIn u id (Gone kept) x = FoundIn u id kept.saved x

pub record Has (w : WorldView) (id : ℕ) (x : Durable) : Type 0 where
  pub slot : Slot ExecutorView
  pub there : slice_get w.executors id ≡ Some slot
  pub had : IsHadIn w.u id slot x

-- an executor has one saved state, and no other
abbrev pub HasOne : WorldView → ℕ → Type 0
HasOne w id = (x : Durable) × Has w id x × ((y : Durable) → Has w id y → y ≡ x)

-- the state is committed, or in the chain, of an executor of this world
abbrev pub IsKeptIn : WorldView → StateView → Type 0
IsKeptIn w s = (id : ℕ) × (x : Durable) × HasSaved w id x × Keeps x s

-- the round made a state of the chain
abbrev pub HasExecuted : Durable → Executed → Type 0
HasExecuted x r = (ordered : Bool) × (t : TentativeView) × In t x.chain × (executed_of ordered t ≡ r)

-- the round made a state of the chain of an executor of this world
abbrev pub IsExecutedIn : WorldView → Executed → Type 0
IsExecutedIn w r = (id : ℕ) × (x : Durable) × HasSaved w id x × HasExecuted x r

-- the state was met in one of these worlds
abbrev pub IsMet : List WorldView → StateView → Type 0
IsMet worlds s = (w : WorldView) × Contains worlds w × IsKeptIn w s

-- the round was executed in one of these worlds
abbrev pub IsExecuted : List WorldView → Executed → Type 0
IsExecuted worlds r = (w : WorldView) × Contains worlds w × IsExecutedIn w r

-- digests tell the texts of these states apart
abbrev pub DigestsAreDistinct : List WorldView → Type 0
DigestsAreDistinct worlds = Distinct (IsTextOf (IsMet worlds))
