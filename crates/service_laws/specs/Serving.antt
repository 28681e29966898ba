-- What a service has shown, next to the one run of its world.
use Rattle.std.specs.Prelude.{◌≡◌, ℕ, List, Contains, Some, slice_get}
use Rattle.proto.specs.declared.command.Command.{Command}
use Rattle.proto.specs.declared.reply.Reply as replies
use Rattle.memcached_spec.specs.Asked.{IsAsked}
use Rattle.grammar.specs.declared.reader.Dialect.{Dialect}
use Rattle.grammar.specs.declared.turn.Turn.{Turn}
use Rattle.grammar.specs.Asks.{TextsShown, BeginsIn, IsAskedIn}
use Rattle.memcached_spec.specs.Fed.{fed_to}
use Rattle.events.specs.declared.event.Event.{Event}
use Rattle.run_laws.specs.Run.{Executed}
use Rattle.one_server_laws.specs.Saved.{IsMet, DigestsAreDistinct}
use Rattle.one_server_laws.specs.Served.{WasAnswered}
use Rattle.one_server_laws.specs.Run.{IsRun}
use Rattle.connections.specs.Connections.{bytes_of_connection}
use Rattle.service.specs.declared.assignment.Assignment.{Assignment}
use Rattle.service.specs.Service.{ServiceView, HasEnsemble}

-- The bytes of the connection ask this command, and its proxy asked it as this request.
pub record IsAssignment (v : ServiceView) (events : List Event) (a : Assignment) : Type 0 where
  pub command : Command
  pub of_connection : IsAskedIn v.connections.dialect (bytes_of_connection a.connection v.connections.heard) a.turn command
  pub of_proxy : IsAsked (fed_to a.proxy events) a.number command

-- in the run, the request as which this command of the connection was asked had this reply
abbrev pub WasAnsweredFor : List Executed → List Assignment → ℕ → ℕ → replies.Reply → Type 0
WasAnsweredFor run assignments connection turn reply = (a : Assignment) × Contains assignments a × (a.connection ≡ connection) × (a.turn ≡ turn) × WasAnswered run a.proxy a.number reply

-- What the connection was given are the texts of the first turns that its bytes spell in the grammar, in order. The reply to each command among them is the run's.
pub record IsConnectionServed (d : Dialect) (run : List Executed) (assignments : List Assignment) (connection : ℕ) (heard given : List ℕ) : Type 0 where
  pub taken : List Turn
  pub texts : TextsShown (WasAnsweredFor run assignments connection) 1 taken given
  pub first : BeginsIn d heard taken

-- The run is that of the world to which these events lead, and all that each connection, here or gone, was given is of it.
pub record IsServedByOne (v : ServiceView) (over : HasEnsemble v) (run : List Executed) : Type 0 where
  pub is_run : IsRun (IsMet over.world.through.worlds) over.world.events over.world.now run
  pub served : (connection : ℕ) → IsConnectionServed v.connections.dialect run v.assignments connection (bytes_of_connection connection v.connections.heard) (bytes_of_connection connection v.connections.given)
  -- a command has one reply
  pub one_reply : (connection turn : ℕ) (r s : replies.Reply) → WasAnsweredFor run v.assignments connection turn r → WasAnsweredFor run v.assignments connection turn s → r ≡ s

-- What a service was given and gave, next to this world, which explains it.
pub record IsServedIn (v : ServiceView) (over : HasEnsemble v) : Type 0 where
  pub each : (a : Assignment) → Contains v.assignments a → IsAssignment v over.world.events a
  -- proxies asked nothing else
  pub none_else : (proxy number : ℕ) (command : Command) → IsAsked (fed_to proxy over.world.events) number command → (a : Assignment) × Contains v.assignments a × (a.proxy ≡ proxy) × (a.number ≡ number)
  -- if digests tell apart the states that executors had, there is one run
  pub one_run : DigestsAreDistinct over.world.through.worlds → (run : List Executed) × IsServedByOne v over run

-- What a service was given and gave, at any moment.
pub record IsServing (v : ServiceView) : Type 0 where
  -- its replicas and proxies are a world that events lead to
  pub has_world : HasEnsemble v
  -- and this holds in each world that explains what it has shown
  pub in_each : (over : HasEnsemble v) → IsServedIn v over
  -- a command is asked once
  pub once : (i j : ℕ) (a b : Assignment) → slice_get v.assignments i ≡ Some a → slice_get v.assignments j ≡ Some b → a.connection ≡ b.connection → a.turn ≡ b.turn → i ≡ j
  -- a request is asked for one command
  pub for_one : (i j : ℕ) (a b : Assignment) → slice_get v.assignments i ≡ Some a → slice_get v.assignments j ≡ Some b → a.proxy ≡ b.proxy → a.number ≡ b.number → i ≡ j
