-- A play is linearizable.
use Rattle.std.specs.Prelude.{◌≡◌, ℕ, suc, ◌-◌, List, [], ◌∷◌, ◌++◌, map, take, drop, length, flat_map, Some, Contains, slice_get}
use Rattle.proto.specs.declared.command.Command.{Command}
use Rattle.proto.specs.declared.reply.Reply.{Reply}
use Rattle.proto.specs.declared.turn.Turn.{Turn}
use Rattle.proto.specs.Grammar.{Spells}
use Rattle.item_steps.specs.Steps.{steps, reply}
use Rattle.item_steps.specs.declared.step.Answer.{Answer}
use Rattle.memcached_spec.specs.Asked.{asked, TextsBy}
use Rattle.events.specs.declared.event.Event.{Event}
use Rattle.memcached_spec.specs.Fed.{fed_to, IsMoment}
use Rattle.memcached_spec.specs.Server.{Line, Tick, IsDone, made_for}

-- the replies to these commands, whose steps had these answers
abbrev pub replies_from : List Command → List Answer → List Reply
replies_from [] answers = []
replies_from (c ∷ commands) answers = reply c (take (length (steps c)) answers) ∷ replies_from commands (drop (length (steps c)) answers)

-- Of the commands that a client's bytes ask, in their order, the first ones were executed, each once and whole.
pub record IsExecutedFor (lines : List Line) (client : ℕ) (all : List ℕ) : Type 0 where
  pub turns : List Turn
  pub rest : List ℕ
  pub spells : Spells all turns rest
  pub count : ℕ
  pub made : map (λ d. d.step) (made_for client lines) ≡ flat_map steps (take count (asked turns))

-- The client was given the texts of its first turns, with replies that these lines made.
pub record IsAnsweredBy (lines : List Line) (client : ℕ) (all given : List ℕ) : Type 0 where
  pub executed : IsExecutedFor lines client all
  pub taken : List Turn
  pub more : List Turn
  pub first : executed.turns ≡ taken ++ more
  pub texts : TextsBy (λ number r. slice_get (replies_from (take executed.count (asked executed.turns)) (map (λ d. d.answer) (made_for client lines))) (number - 1) ≡ Some r) 1 taken given

-- What each client was given, those of number 1, 2 and so on.
abbrev pub AllGiven : Type 0
AllGiven = List (List ℕ)

-- What clients asked by these events and were given is what one server did in this order.
pub record IsOrder (events : List Event) (all_given : AllGiven) (lines : List Line) : Type 0 where
  pub done : IsDone lines
  pub moments : (moment : ℕ) → Contains lines (Tick moment) → IsMoment events moment
  pub asked_only : (client : ℕ) → IsExecutedFor lines client (fed_to client events)
  pub answered : (i : ℕ) (given : List ℕ) → slice_get all_given i ≡ Some given → IsAnsweredBy lines (suc i) (fed_to (suc i) events) given

-- after each further event there is an order that begins with the one before
abbrev pub OrdersGrow : List Event → List Line → List Event → List AllGiven → Type 0
OrdersGrow past before [] [] = Unit {0}
OrdersGrow past before [] (g ∷ gs) = ⊥
OrdersGrow past before (e ∷ es) [] = ⊥
OrdersGrow past before (e ∷ es) (g ∷ gs) = (more : List Line) × IsOrder (past ++ e ∷ []) g (before ++ more) × OrdersGrow (past ++ e ∷ []) (before ++ more) es gs

-- A play of these events, with what clients had been given before the first and after each of them, is linearizable: what was done before an event is before all that comes later.
abbrev pub IsLinearizable : List Event → List AllGiven → Type 0
IsLinearizable events [] = ⊥
IsLinearizable events (first ∷ later) = (lines : List Line) × IsOrder [] first lines × OrdersGrow [] lines events later

-- In one order of the whole play each moment of it is a cut: what is before the cut was asked by then, and answers all that was given by then.
abbrev pub HasOneOrder : List Event → List AllGiven → List Line → Type 0
HasOneOrder events history lines = (early late : List Event) (g : AllGiven) → events ≡ early ++ late → slice_get history (length early) ≡ Some g
    → (before : List Line) × (after : List Line) × (lines ≡ before ++ after) × IsOrder early g before
