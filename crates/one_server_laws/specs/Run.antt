-- The one run of a world, and how runs grow along a play.
use Rattle.std.specs.Prelude.{◌≡◌, ℕ, suc, ◌<◌, ◌≤◌, false, List, [], ◌∷◌, ◌++◌, length, Some, Contains, slice_get}
use Rattle.decrees.specs.Count.{member_count}
use Rattle.proto.specs.declared.reply.Reply as replies
use Rattle.sessions.specs.declared.request.Request.{Request}
use Rattle.states.specs.State.{StateView, initial_state}
use Rattle.executor.specs.declared.answered.Answered.{Answered}
use Rattle.exec_node.specs.Executor.{ExecutorView}
use Rattle.run_laws.specs.Met.{AreAll}
use Rattle.run_laws.specs.Run.{Executed, IsRunFrom, made_in, states_of, Extends}
use Rattle.run_laws.specs.Chosen.{commits, known_by}
use Rattle.run_laws.specs.Replied.{GivenIn}
use Rattle.custody_laws.specs.Durable.{Durable, Keeps}
use Rattle.events.specs.declared.event.Event.{Event}
use Rattle.slots.specs.Slot.{Slot}
use Rattle.worlds.specs.Clients.{ClientSlot}
use Rattle.worlds.specs.World.{WorldView}
use Rattle.slots.specs.Status.{is_gone}
use Rattle.world_laws.specs.Laws.{chosen_list}
use Rattle.one_server_laws.specs.Saved.{IsSpelled, Has, HasOne, IsMet}
use Rattle.one_server_laws.specs.HeldLaws.{executor_record, lost_executors}
use Rattle.memcached_spec.specs.Fed.{fed_to, IsMoment}
use Rattle.worlds.specs.Asked.{IsAskedRequest, WasSent}
use Rattle.one_server_laws.specs.Served.{IsServed, WasAnswered}

-- The run is what one server does that is fed as by these events, and this world shows nothing else.
pub record IsRun (met : StateView → Type 0) (events : List Event) (w : WorldView) (run : List Executed) : Type 0 where
  -- rounds follow one another from the first state, one for each chosen Commit, with its number and token
  pub follows : IsRunFrom initial_state run
  pub one_each : known_by run ≡ commits (chosen_list w)
  -- an executor had each state, committed or in its chain
  pub states_met : AreAll (made_in run) met
  -- each of the 2u + 1 executors, up, down or lost, has one saved state, which is the first one if it never saved
  pub each_has_one : (id : ℕ) → id < member_count w.u → HasOne w id
  -- what it has committed is the state after so many rounds, whole
  pub committed : (id : ℕ) (x : Durable) → Has w id x → slice_get (states_of run) x.have.number ≡ Some x.have
  -- a round is of requests that their clients asked, as the bytes that they were fed spell
  pub asked : (r : Executed) (q : Request) → Contains run r → Contains r.batch.requests q → IsAskedRequest events q
  -- a request is answered at most once
  pub once : (i j : ℕ) (a b : Answered) → GivenIn run i a → GivenIn run j b → a.client ≡ b.client → a.number ≡ b.number → (i ≡ j) × (a ≡ b)
  -- a round is of the moment of some Cut
  pub moments : (r : Executed) → Contains run r → IsMoment events r.batch.moment
  -- each reply that was ever sent is the run's
  pub replied : (client number : ℕ) (reply : replies.Reply) → WasSent w.letters client number reply → WasAnswered run client number reply
  -- what a client was given are the texts of the first turns that its bytes spell; clients are numbered from 1
  pub served : (i : ℕ) (slot : ClientSlot) → slice_get w.clients i ≡ Some slot → IsServed run (suc i) (fed_to (suc i) events) slot.given

-- after each further event there is a run that begins with the one before
abbrev pub RunsGrow : (StateView → Type 0) → List Event → List Executed → List Event → List WorldView → Type 0
RunsGrow met past before [] [] = Unit {0}
RunsGrow met past before [] (x ∷ xs) = ⊥
RunsGrow met past before (e ∷ es) [] = ⊥
RunsGrow met past before (e ∷ es) (x ∷ xs) = (run : List Executed) × Extends before run × IsRun met (past ++ e ∷ []) x run × RunsGrow met (past ++ e ∷ []) run es xs

-- the worlds of a play, from its first one on, show one server
abbrev pub IsOneServer : List Event → List WorldView → Type 0
IsOneServer events [] = ⊥
IsOneServer events (first ∷ later) = (run : List Executed) × IsRun (IsMet (first ∷ later)) [] first run × RunsGrow (IsMet (first ∷ later)) [] run events later

-- An executor that is not lost for good has, in its record, the state that the run ends with.
pub record KeepsTheEnd (w : WorldView) (run : List Executed) : Type 0 where
  pub executor : ℕ
  pub slot : Slot ExecutorView
  pub there : slice_get w.executors executor ≡ Some slot
  pub not_lost : is_gone (Some slot) ≡ false
  pub saved : Durable
  pub recorded : IsSpelled w.u executor (executor_record slot) saved
  pub last : StateView
  pub is_last : slice_get (states_of run) (length run) ≡ Some last
  pub keeps : Keeps saved last

-- if at most u executors are lost, and the run has a round, another one keeps what it ends with
abbrev pub ExecutorsKeep : (StateView → Type 0) → List Event → WorldView → Type 0
ExecutorsKeep met events w = lost_executors w ≤ w.u → (run : List Executed) → IsRun met events w run → 0 < length run → KeepsTheEnd w run
