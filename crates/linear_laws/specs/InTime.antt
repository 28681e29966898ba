-- In one order of a play what is due at the moment of a batch is not shown by it.
use Rattle.std.specs.Prelude.{◌≡◌, ℕ, suc, ◌≤◌, List, [], ◌∷◌, ◌++◌, flat_map, Contains}
use Rattle.proto.specs.declared.command.Command.{Command}
use Rattle.item_steps.specs.Steps.{steps}
use Rattle.events.specs.declared.event.Event.{Event}
use Rattle.events.specs.declared.event.Event.TheVariants.{Cut}
use Rattle.memcached_spec.specs.Asked.{IsAsked}
use Rattle.memcached_spec.specs.Fed.{fed_to}
use Rattle.memcached_spec.specs.Server.{Line, Made, Tick, Do}
use Rattle.memcached_spec.specs.Order.{AllGiven, IsOrder, IsLinearizable, IsExecutedFor}

-- The line is a step of its client's next command, which the events of the past ask: just the client's commands before that one were executed in these lines, which come earlier.
pub record IsStepOfAsked (events past : List Event) (earlier : List Line) (line : Line) : Type 0 where
  pub made : Made
  pub is : line ≡ Do made
  pub number : ℕ
  pub command : Command
  pub asked : IsAsked (fed_to made.client past) number command
  pub step : Contains (steps command) made.step
  pub executed : IsExecutedFor earlier made.client (fed_to made.client events)
  pub next : number ≡ suc executed.count

-- The lines of a batch, which these come before: first it becomes as late as its moment, or later, so that what is due is gone. Then steps are made, each of a command that had been asked when the batch was cut at this moment.
pub record IsBatchOfCut (events : List Event) (earlier lines : List Line) : Type 0 where
  pub before : List Event
  pub after : List Event
  pub executor : ℕ
  pub moment : ℕ
  pub split : events ≡ before ++ Cut executor moment ∷ after
  pub now : ℕ
  pub late : moment ≤ now
  pub rest : List Line
  pub begins : lines ≡ Tick now ∷ rest
  pub each : (line : Line) → Contains rest line → IsStepOfAsked events before earlier line

-- these are such batches, one after the other, behind these lines
abbrev pub FollowAsBatches : List Event → List Line → List (List Line) → Type 0
FollowAsBatches events earlier [] = Unit {0}
FollowAsBatches events earlier (batch ∷ batches) = IsBatchOfCut events earlier batch × FollowAsBatches events (earlier ++ batch) batches

-- the order is made of such batches
abbrev pub AreBatchesOfCuts : List Event → List Line → Type 0
AreBatchesOfCuts events lines = (batches : List (List Line)) × (lines ≡ flat_map (λ batch. batch) batches) × FollowAsBatches events [] batches

-- after each further event there is such an order that begins with the one before
abbrev pub OrdersGrowInTime : List Event → List Line → List Event → List AllGiven → Type 0
OrdersGrowInTime past before [] [] = Unit {0}
OrdersGrowInTime past before [] (g ∷ gs) = ⊥
OrdersGrowInTime past before (e ∷ es) [] = ⊥
OrdersGrowInTime past before (e ∷ es) (g ∷ gs) =
    (more : List Line) × IsOrder (past ++ e ∷ []) g (before ++ more) × AreBatchesOfCuts (past ++ e ∷ []) (before ++ more) × OrdersGrowInTime (past ++ e ∷ []) (before ++ more) es gs

-- as `IsLinearizable`, with orders that are made of batches
abbrev pub IsLinearizableInTime : List Event → List AllGiven → Type 0
IsLinearizableInTime events [] = ⊥
IsLinearizableInTime events (first ∷ later) = (lines : List Line) × IsOrder [] first lines × AreBatchesOfCuts [] lines × OrdersGrowInTime [] lines events later

-- A play is linearizable, also with orders in which no batch shows what is due at its moment.
pub record IsLinearizablePlay (events : List Event) (history : List AllGiven) : Type 0 where
  pub order : IsLinearizable events history
  pub in_time : IsLinearizableInTime events history
