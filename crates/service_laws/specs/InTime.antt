-- In one order, each command is executed at a moment that is in time for it: what was due then is not shown.
use Rattle.std.specs.Prelude.{◌≡◌, ℕ, suc, ◌≤◌, List, [], ◌∷◌, ◌++◌, flat_map, Contains}
use Rattle.proto.specs.declared.command.Command.{Command}
use Rattle.item_steps.specs.Steps.{steps}
use Rattle.grammar.specs.declared.reader.Dialect.{Dialect}
use Rattle.grammar.specs.Asks.{IsAskedIn}
use Rattle.grammar.specs.Orders.{IsExecutedFrom}
use Rattle.memcached_spec.specs.Server.{Line, Made, Tick, Do}
use Rattle.connections.specs.Connections.{bytes_of_connection}
use Rattle.connections.specs.History.{Passed, heard_among, moments_among}
use Rattle.ensemble.specs.Moments.{IsSince}
use Rattle.service.specs.Service.{ServiceView}

-- Whenever the connection's command of this number had not been heard yet, this is the last moment that had passed by then, or one that passed later.
abbrev pub IsTimely : Dialect → List Passed → ℕ → ℕ → ℕ → Type 0
IsTimely d passed connection turn moment = (early late : List Passed) → passed ≡ early ++ late → ((command : Command) → IsAskedIn d (bytes_of_connection connection (heard_among early)) turn command → ⊥) → IsSince (moments_among early) (moments_among late) moment

-- The line is a step of the connection's next command, and this moment is in time for that: just the connection's commands before that one were executed in these lines, which come earlier.
pub record IsStepInTime (v : ServiceView) (moment : ℕ) (earlier : List Line) (line : Line) : Type 0 where
  pub made : Made
  pub is : line ≡ Do made
  pub turn : ℕ
  pub command : Command
  pub asked : IsAskedIn v.connections.dialect (bytes_of_connection made.client v.connections.heard) turn command
  pub step : Contains (steps command) made.step
  pub executed : IsExecutedFrom v.connections.dialect earlier made.client (bytes_of_connection made.client v.connections.heard)
  pub next : turn ≡ suc executed.count
  pub timely : IsTimely v.connections.dialect v.connections.passed made.client turn moment

-- The lines of a batch, which these come before: first it becomes as late as its moment, or later, so that what is due is gone. Then steps are made, and the moment is in time for each of them.
pub record IsBatchInTime (v : ServiceView) (earlier lines : List Line) : Type 0 where
  pub moment : ℕ
  pub now : ℕ
  pub late : moment ≤ now
  pub rest : List Line
  pub begins : lines ≡ Tick now ∷ rest
  pub each : (line : Line) → Contains rest line → IsStepInTime v moment earlier line

-- these are such batches, one after the other, behind these lines
abbrev pub FollowInTime : ServiceView → List Line → List (List Line) → Type 0
FollowInTime v earlier [] = Unit {0}
FollowInTime v earlier (batch ∷ batches) = IsBatchInTime v earlier batch × FollowInTime v (earlier ++ batch) batches

-- the order is made of such batches
abbrev pub IsInTime : ServiceView → List Line → Type 0
IsInTime v lines = (batches : List (List Line)) × (lines ≡ flat_map (λ batch. batch) batches) × FollowInTime v [] batches
