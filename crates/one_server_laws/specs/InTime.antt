-- When batches were cut, and how runs grow of which that is said.
use Rattle.std.specs.Prelude.{◌≡◌, ℕ, List, [], ◌∷◌, ◌++◌, Contains}
use Rattle.sessions.specs.declared.request.Request.{Request}
use Rattle.batches.specs.declared.batch.Batch.{Batch}
use Rattle.states.specs.State.{StateView}
use Rattle.run_laws.specs.Run.{Executed, Extends}
use Rattle.events.specs.declared.event.Event.{Event}
use Rattle.events.specs.declared.event.Event.TheVariants.{Cut}
use Rattle.events.specs.Config.{ConfigView}
use Rattle.worlds.specs.World.{WorldView, ReachedWorlds}
use Rattle.worlds.specs.Asked.{IsAskedRequest}
use Rattle.one_server_laws.specs.Saved.{IsMet, IsExecuted, DigestsAreDistinct}
use Rattle.one_server_laws.specs.Run.{IsRun}

-- A cut at the moment of the batch came when each of its requests had been asked.
pub record WasCut (events : List Event) (b : Batch) : Type 0 where
  pub before : List Event
  pub after : List Event
  pub executor : ℕ
  pub split : events ≡ before ++ Cut executor b.moment ∷ after
  pub asked : (r : Request) → Contains b.requests r → IsAskedRequest before r

-- so was each batch that an executor of these worlds executed
abbrev pub ExecutedWasCut : Type 0
ExecutedWasCut = (c : ConfigView) (events : List Event) (worlds : List WorldView) (r : Executed) → ReachedWorlds c events worlds → IsExecuted worlds r → WasCut events r.batch

-- and so was each batch of the run
pub record IsRunInTime (met : StateView → Type 0) (events : List Event) (w : WorldView) (run : List Executed) : Type 0 where
  pub is_run : IsRun met events w run
  pub cut : (r : Executed) → Contains run r → WasCut events r.batch

-- after each further event there is such a run that begins with the one before
abbrev pub RunsGrowInTime : (StateView → Type 0) → List Event → List Executed → List Event → List WorldView → Type 0
RunsGrowInTime met past before [] [] = Unit {0}
RunsGrowInTime met past before [] (x ∷ xs) = ⊥
RunsGrowInTime met past before (e ∷ es) [] = ⊥
RunsGrowInTime met past before (e ∷ es) (x ∷ xs) = (run : List Executed) × Extends before run × IsRunInTime met (past ++ e ∷ []) x run × RunsGrowInTime met (past ++ e ∷ []) run es xs

-- the worlds of a play, from its first one on, show one server that is in time
abbrev pub IsOneServerInTime : List Event → List WorldView → Type 0
IsOneServerInTime events [] = ⊥
IsOneServerInTime events (first ∷ later) = (run : List Executed) × IsRunInTime (IsMet (first ∷ later)) [] first run × RunsGrowInTime (IsMet (first ∷ later)) [] run events later

abbrev pub WorldsAreInTime : Type 0
WorldsAreInTime = (c : ConfigView) (events : List Event) (worlds : List WorldView) → ReachedWorlds c events worlds → DigestsAreDistinct worlds → IsOneServerInTime events worlds
