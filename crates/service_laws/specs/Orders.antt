-- One order of item steps for all connections.
use Rattle.std.specs.Prelude.{◌≡◌, ℕ, ◌≤◌, ◌<◌, List, ◌++◌, length, Some, Contains, slice_get}
use Rattle.proto.specs.declared.command.Command.{Command}
use Rattle.proto.specs.declared.reply.Reply as replies
use Rattle.events.specs.declared.event.Event.{Event}
use Rattle.worlds.specs.World.{WorldView}
use Rattle.worlds.specs.Asked.{WasSent}
use Rattle.memcached_spec.specs.Asked.{IsAsked}
use Rattle.memcached_spec.specs.Fed.{fed_to}
use Rattle.executor.specs.declared.answered.Answered.{Answered}
use Rattle.run_laws.specs.Run.{Executed}
use Rattle.run_laws.specs.Replied.{GivenIn}
use Rattle.memcached_spec.specs.Server.{Line, Tick, IsDone}
use Rattle.grammar.specs.declared.reader.Dialect.{Dialect}
use Rattle.grammar.specs.Orders.{IsExecutedFrom, IsAnsweredFrom}
use Rattle.connections.specs.Connections.{bytes_of_connection}
use Rattle.connections.specs.History.{Passed, heard_among, given_among, moments_among}
use Rattle.one_server_laws.specs.Saved.{DigestsAreDistinct}
use Rattle.service.specs.declared.assignment.Assignment.{Assignment}
use Rattle.service.specs.Service.{ServiceView, HasEnsemble}
use Rattle.service_laws.specs.Serving.{IsServing}
use Rattle.service_laws.specs.InTime.{IsInTime}

-- the command was executed in the run's round at this place
abbrev pub RanAt : List Executed → ℕ → Assignment → Type 0
RanAt run place a = (x : Answered) × GivenIn run place x × (x.client ≡ a.proxy) × (x.number ≡ a.number)

-- each earlier command of the connection was executed in an earlier round
abbrev pub RanInTurn : List Executed → List Assignment → Type 0
RanInTurn run assignments = (b : Assignment) (place t : ℕ) → Contains assignments b → RanAt run place b → 1 ≤ t → t < b.turn
    → (a : Assignment) × Contains assignments a × (a.connection ≡ b.connection) × (a.turn ≡ t) × (earlier : ℕ) × (earlier < place) × RanAt run earlier a

-- What one server does in this order: each connection's first commands, in their order, each once and whole, and what it was given are the replies to them, as the grammar of its bytes has both. It becomes as late as these moments, and at no other.
pub record IsConnectionOrder (d : Dialect) (heard given : List (ℕ × List ℕ)) (moments : List ℕ) (lines : List Line) : Type 0 where
  pub done : IsDone lines
  pub ticks : (moment : ℕ) → Contains lines (Tick moment) → Contains moments moment
  pub asked_only : (c : ℕ) → IsExecutedFrom d lines c (bytes_of_connection c heard)
  pub answered : (c : ℕ) → IsAnsweredFrom d lines c (bytes_of_connection c heard) (bytes_of_connection c given)

-- At a moment of the play the first command had its reply, and the second one was not asked yet.
pub record WasAnsweredBefore (events : List Event) (worlds : List WorldView) (a b : Assignment) : Type 0 where
  pub before : List Event
  pub after : List Event
  pub split : events ≡ before ++ after
  pub now : WorldView
  pub there : slice_get worlds (length before) ≡ Some now
  pub reply : replies.Reply
  pub sent : WasSent now.letters a.proxy a.number reply
  pub not_asked : (command : Command) → IsAsked (fed_to b.proxy before) b.number command → ⊥

-- each earlier command of the connection was answered before this one was asked
abbrev pub AreAskedInTurn : List Event → List WorldView → List Assignment → Type 0
AreAskedInTurn events worlds assignments = (b : Assignment) (t : ℕ) → Contains assignments b → 1 ≤ t → t < b.turn
    → (a : Assignment) × Contains assignments a × (a.connection ≡ b.connection) × (a.turn ≡ t) × WasAnsweredBefore events worlds a b

-- Each moment is a cut of this order: what is before the cut had been heard by then, and answers all that had been given by then. What is asked or given later is behind it.
abbrev pub AreCuts : Dialect → List Passed → List Line → Type 0
AreCuts d passed lines = (early late : List Passed) → passed ≡ early ++ late → (before after : List Line) × (lines ≡ before ++ after) × IsConnectionOrder d (heard_among early) (given_among early) (moments_among early) before

-- The history of all connections, here or gone, is linearizable: what they asked and were given is what one server does in one order of item steps, which keeps the order of each connection and real time, and in which each command is executed at a moment that is in time for it. It is, if some world explains it in which digests tell apart the states that executors had.
pub record IsLinearizableService (v : ServiceView) : Type 0 where
  pub serving : IsServing v
  pub in_turn : (over : HasEnsemble v) → AreAskedInTurn over.world.events over.world.through.worlds v.assignments
  pub one_order : (over : HasEnsemble v) → DigestsAreDistinct over.world.through.worlds → (lines : List Line) × IsConnectionOrder v.connections.dialect v.connections.heard v.connections.given (moments_among v.connections.passed) lines × AreCuts v.connections.dialect v.connections.passed lines × IsInTime v lines
