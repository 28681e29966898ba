-- What holds of rounds and of runs.
use Rattle.std.specs.Prelude.{◌≡◌, ℕ, ◌≤◌, List, [], ◌∷◌, ◌++◌, map, length, Some, Contains, slice_get, codes, pos}
use Rattle.proto.specs.declared.command.Command.TheVariants.{Get, Update}
use Rattle.proto.specs.declared.command.Update.TheVariants.{Store}
use Rattle.proto.specs.declared.command.StoreVerb.TheVariants.{Set}
use Rattle.mixer.specs.Groups.{numbers_from}
use Rattle.sessions.specs.declared.request.Request.{Request}
use Rattle.states.specs.State.{StateView, initial_state}
use Rattle.run_laws.specs.Run.{Executed, IsOver, IsRunFrom, Extends}
use Rattle.events.specs.declared.event.Event.{Event}
use Rattle.events.specs.Config.{ConfigView}
use Rattle.worlds.specs.World.{WorldView, ReachedWorlds, IsReached}
use Rattle.one_server_laws.specs.Saved.{IsMet, DigestsAreDistinct}
use Rattle.worlds.specs.Asked.{IsAskedRequest}
use Rattle.one_server_laws.specs.Run.{IsRun, IsOneServer}
use Rattle.memcached_spec.specs.Order.{AllGiven, IsLinearizable}
use Rattle.memcached_spec.specs.Server.{Server, Line, Leads, new_server}
use Rattle.linear_laws.specs.InTime.{IsLinearizablePlay}

-- what a server is that has this state
abbrev pub seen : StateView → Server
seen s = record { items = s.items; moment = s.moment }

-- a round, whatever its groups and their interleavings, is one list of lines
abbrev pub RoundIsOneList : Type 0
RoundIsOneList = (old : StateView) (e : Executed) → IsOver old e → (lines : List Line) × Leads (seen old) lines (seen e.new)

-- the state that a run from this one ends with
abbrev pub last_of : StateView → List Executed → StateView
last_of s [] = s
last_of s (e ∷ run) = last_of e.new run

-- and so is a run
abbrev pub RunIsOneList : Type 0
RunIsOneList = (run : List Executed) → IsRunFrom initial_state run → (lines : List Line) × Leads new_server lines (seen (last_of initial_state run))

-- if a run goes on, what its first rounds were made of goes on
abbrev pub ListGoesOn : Type 0
ListGoesOn = (run more : List Executed) (lines : List Line) → IsRunFrom initial_state (run ++ more) → Leads new_server lines (seen (last_of initial_state run))
    → (later : List Line) × Leads new_server (lines ++ later) (seen (last_of initial_state (run ++ more)))

-- A request that events did not ask yet is in no round of the run of their world: if a later run has it, it is behind all of these rounds.
abbrev pub AskedLaterIsLater : Type 0
AskedLaterIsLater = (worlds : List WorldView) (events : List Event) (w : WorldView) (run later : List Executed) (place : ℕ) (e : Executed) (q : Request)
    → IsRun (IsMet worlds) events w run → Extends run later → slice_get later place ≡ Some e → Contains e.batch.requests q → (IsAskedRequest events q → ⊥) → length run ≤ place

-- what clients had been given in each of these worlds
abbrev pub given_in : WorldView → AllGiven
given_in w = map (λ slot. slot.given) w.clients

abbrev pub history_of : List WorldView → List AllGiven
history_of worlds = map given_in worlds

-- What shows one server is linearizable.
abbrev pub PlaysAreLinearizable : Type 0
PlaysAreLinearizable = (events : List Event) (worlds : List WorldView) → IsOneServer events worlds → IsLinearizable events (history_of worlds)

-- if digests tell the states that were met apart, the worlds that events lead through are linearizable
abbrev pub ReachedAreLinearizable : Type 0
ReachedAreLinearizable = (c : ConfigView) (events : List Event) (worlds : List WorldView) → ReachedWorlds c events worlds → DigestsAreDistinct worlds → IsLinearizablePlay events (history_of worlds)

-- of the world to which events lead
abbrev pub ShowsLinearizable : ConfigView → List Event → WorldView → Type 0
ShowsLinearizable c events w = (through : IsReached c events w) → DigestsAreDistinct through.worlds → IsLinearizablePlay events (history_of through.worlds)

-- The mixer lets these four run in one group, in any interleaving: a get of several keys is no one step.
abbrev pub GetsMayOverlap : Type 0
GetsMayOverlap = numbers_from [] (Get (codes "x" ∷ codes "y" ∷ codes "c" ∷ codes "d" ∷ []) ∷ Get (codes "z" ∷ codes "w" ∷ codes "d" ∷ codes "c" ∷ []) ∷ Update (Store Set (codes "c") 0 (pos 0) (codes "1")) ∷ Update (Store Set (codes "d") 0 (pos 0) (codes "1")) ∷ []) ≡ 0 ∷ 0 ∷ 0 ∷ 0 ∷ []
