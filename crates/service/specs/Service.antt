-- A service, as contracts see it, and what always holds of it.
use Rattle.std.specs.Prelude.{◌≡◌, ◌⊎◌, ℕ, zero, suc, ◌-◌, ◌^◌, ◌≤◌, ◌<◌, Bool, List, [], ◌∷◌, ◌++◌, map, Option, None, Some, Result, Ok, Err, Contains, slice_get, refl}
use Rattle.std.specs.Coded.{Coded, code_by, coded×, coded_ℕ, coded_bool, coded_list, coded_option}
use Rattle.proto.specs.declared.command.Command.{Command}
use Rattle.proto.specs.declared.reply.Reply as replies
use Rattle.sessions.specs.declared.request.Request.{Request}
use Rattle.connections.specs.declared.connections.CommandNumber.{CommandNumber}
use Rattle.loop_messages.specs.declared.message.Said.{Said}
use Rattle.connections.specs.Connections.{ConnectionsView, bytes_of_connection, WasReplied, IsAnswered}
use Rattle.connections.specs.History.{Passed, heard_as, given_as, heard_among, given_among, moments_among}
use Rattle.grammar.specs.declared.reader.Dialect.{Dialect}
use Rattle.grammar.specs.Asks.{IsAskedIn}
use Rattle.base.specs.declared.fault.Fault.{Fault}
use Rattle.ensemble.specs.declared.answer.Answer.{Answer}
use Rattle.ensemble.specs.declared.noted.Noted.{Noted}
use Rattle.ensemble.specs.declared.noted.Noted.TheVariants as noted
use Rattle.ensemble.specs.Nodes.{size_of}
use Rattle.ensemble.specs.Served.{IsAtRest}
use Rattle.ensemble.specs.Moments.{moments_in, latest_of, IsSince}
use Rattle.ensemble.specs.Ensemble.{EnsembleView, IsEnsemble, answer_entry, order_entry}
use Rattle.service.specs.declared.assignment.Assignment.{Assignment}
use Rattle.service.specs.declared.assignment.Outstanding.{Outstanding}
use Rattle.service.specs.declared.note.Waiting.{Waiting}
use Rattle.service.specs.declared.pause.Pause.{Pause}

-- what is seen of the replicas
pub record ReplicasView : Type 0 where
  pub ensemble : EnsembleView
  -- how often something was left undone, there or in the service, since memory was refused or a bound was reached
  pub refused : ℕ
  -- of each node, when it is opened again if it stops
  pub pauses : List Pause

-- nothing is seen of them. What always holds does not speak of them
abbrev pub none_shown : ReplicasView
none_shown = record { ensemble = record { nodes = record { u = 0; proxies = []; executors = []; verifiers = []; mail = [] }; asked = []; answered = []; order = []; refused = 0; found = None }; refused = 0; pauses = [] }

pub record ServiceView : Type 0 where
  pub connections : ConnectionsView
  -- the requests that proxies asked, each with whether it is quiet
  pub asked : List (Request × Bool)
  -- the replies that came back to proxies, by the proxy and the number of the request
  pub answered : List ((ℕ × ℕ) × replies.Reply)
  -- in which order: the proxy and the request's number, and whether it was asked or answered, and each moment that was handed in
  pub order : List ((ℕ × ℕ) × Noted)
  -- which command was asked as which request
  pub assignments : List Assignment
  -- what proxies wait for
  pub waiting : List (Option Outstanding)
  -- who waits for a proxy, in order. Some may have left
  pub queue : List Waiting
  pub replicas : ReplicasView

-- a service is identified by what it has
abbrev pub service_code : Coded ConnectionsView → Coded Request → Coded (replies.Reply) → Coded Noted → Coded Assignment → Coded Outstanding → Coded Waiting → Coded EnsembleView → Coded Pause → Coded ServiceView
service_code connections request reply note assignment outstanding waiting ensemble pause =
    code_by (((((((((ConnectionsView × List (Request × Bool)) × List ((ℕ × ℕ) × replies.Reply)) × List ((ℕ × ℕ) × Noted)) × List Assignment) × List (Option Outstanding)) × List Waiting) × EnsembleView) × ℕ) × List Pause)
    (coded× (coded× (coded× (coded× (coded× (coded× (coded× (coded× (coded× connections (coded_list (coded× request coded_bool))) (coded_list (coded× (coded× coded_ℕ coded_ℕ) reply))) (coded_list (coded× (coded× coded_ℕ coded_ℕ) note))) (coded_list assignment)) (coded_list (coded_option outstanding))) (coded_list waiting)) ensemble) coded_ℕ) (coded_list pause))
    (λ v. (((((((((v.connections, v.asked), v.answered), v.order), v.assignments), v.waiting), v.queue), v.replicas.ensemble), v.replicas.refused), v.replicas.pauses))
    (λ p. record { connections = p.0.0.0.0.0.0.0.0.0; asked = p.0.0.0.0.0.0.0.0.1; answered = p.0.0.0.0.0.0.0.1; order = p.0.0.0.0.0.0.1; assignments = p.0.0.0.0.0.1; waiting = p.0.0.0.0.1; queue = p.0.0.0.1; replicas = record { ensemble = p.0.0.1; refused = p.0.1; pauses = p.1 } })
    (λ _. refl)

-- what is given, by the number of its connection
abbrev pub given_entry : Said → ℕ × List ℕ
given_entry said = (said.number, said.bytes.items)

abbrev pub passed_entry : Said → Passed
passed_entry said = given_as said.number said.bytes.items

-- ---- what always holds

abbrev pub command_number_of : Assignment → CommandNumber
command_number_of a = record { connection = a.connection; turn = a.turn }

abbrev pub asked_as : Request × Bool → ℕ × ℕ
asked_as r = (r.0.client, r.0.number)

abbrev pub assigned_as : Assignment → ℕ × ℕ
assigned_as a = (a.proxy, a.number)

-- the requests that were asked, in order
abbrev pub asked_keys : List ((ℕ × ℕ) × Noted) → List (ℕ × ℕ)
asked_keys [] = []
asked_keys ((key, noted.Asked) ∷ order) = key ∷ asked_keys order
asked_keys ((key, noted.Answered) ∷ order) = asked_keys order
asked_keys ((key, noted.Moment) ∷ order) = asked_keys order

-- what had been asked and answered before the request at this index of them was asked
abbrev pub before_ask : ℕ → List ((ℕ × ℕ) × Noted) → List ((ℕ × ℕ) × Noted)
before_ask i [] = []
before_ask i ((key, noted.Answered) ∷ order) = (key, noted.Answered) ∷ before_ask i order
before_ask i ((key, noted.Moment) ∷ order) = (key, noted.Moment) ∷ before_ask i order
before_ask zero ((key, noted.Asked) ∷ order) = []
before_ask (suc i) ((key, noted.Asked) ∷ order) = (key, noted.Asked) ∷ before_ask i order

-- this command of the connection was asked as a request that was answered by then
pub record IsAnsweredEarlier (assignments : List Assignment) (connection turn : ℕ) (order : List ((ℕ × ℕ) × Noted)) : Type 0 where
  pub assignment : Assignment
  pub assigned : Contains assignments assignment
  pub of_connection : assignment.connection ≡ connection
  pub of_turn : assignment.turn ≡ turn
  pub answered : Contains order ((assignment.proxy, assignment.number), noted.Answered)

-- the command was taken from its connection, and was asked as the request
pub record IsAssigned (v : ServiceView) (a : Assignment) : Type 0 where
  pub command : Command
  pub taken : Contains v.connections.taken (command_number_of a, command)
  pub request : Request
  pub quiet : Bool
  pub asked : Contains v.asked (request, quiet)
  pub of_proxy : request.client ≡ a.proxy
  pub numbered : request.number ≡ a.number
  pub same : request.command ≡ command

-- in this slot the reply to this is waited for
abbrev pub WaitsAt : List (Option Outstanding) → ℕ → Assignment → Type 0
WaitsAt waiting i a = (o : Outstanding) × (slice_get waiting i ≡ Some (Some o)) × (o.assignment ≡ a)

-- a proxy waits for the reply to this
abbrev pub Waits : List (Option Outstanding) → Assignment → Type 0
Waits waiting a = (i : ℕ) × (o : Outstanding) × (slice_get waiting i ≡ Some (Some o)) × (o.assignment ≡ a)

pub record IsService (v : ServiceView) : Type 0 where
  pub each : (a : Assignment) → Contains v.assignments a → IsAssigned v a
  -- nothing else was asked
  pub none_else : (r : Request × Bool) → Contains v.asked r → (a : Assignment) × Contains v.assignments a × (a.proxy ≡ r.0.client) × (a.number ≡ r.0.number)
  -- each request was asked for one command: they were asked in this order
  pub in_order : map asked_as v.asked ≡ map assigned_as v.assignments
  -- a command is asked once
  pub once : (i j : ℕ) (a b : Assignment) → slice_get v.assignments i ≡ Some a → slice_get v.assignments j ≡ Some b → a.connection ≡ b.connection → a.turn ≡ b.turn → i ≡ j
  -- a reply that came back to a command is one to its request
  pub replied : (e : CommandNumber × replies.Reply) → Contains v.connections.replied e → (a : Assignment) × Contains v.assignments a × (command_number_of a ≡ e.0) × Contains v.answered ((a.proxy, a.number), e.1) × Contains v.order ((a.proxy, a.number), noted.Answered)
  pub ordered : asked_keys v.order ≡ map assigned_as v.assignments
  -- each earlier command of its connection was answered before a command was asked
  pub in_turn : (i : ℕ) (b : Assignment) → slice_get v.assignments i ≡ Some b → (turn : ℕ) → 1 ≤ turn → turn < b.turn → IsAnsweredEarlier v.assignments b.connection turn (before_ask i v.order)
  pub waits : (a : Assignment) → Waits v.waiting a → Contains v.assignments a
  -- who waits is the proxy that asked. Proxies are numbered from 1
  pub in_own_slot : (i : ℕ) (a : Assignment) → WaitsAt v.waiting i a → a.proxy ≡ suc i
  -- no reply came back to a command for which a proxy waits
  pub unreplied : (a : Assignment) → Waits v.waiting a → (reply : replies.Reply) → WasReplied v.connections.replied a.connection a.turn reply → ⊥

-- the command of this number was asked as a request that was answered so, by then
abbrev pub WasAnsweredBy : List Assignment → List ((ℕ × ℕ) × replies.Reply) → List ((ℕ × ℕ) × Noted) → ℕ → ℕ → replies.Reply → Type 0
WasAnsweredBy assignments answered order connection turn reply = (a : Assignment) × Contains assignments a × (a.connection ≡ connection) × (a.turn ≡ turn) × Contains answered ((a.proxy, a.number), reply) × Contains order ((a.proxy, a.number), noted.Answered)

-- When just this had passed, so much had been asked and answered: what was asked had been heard, and what was given answers it. The moments that the replicas had been handed had passed, and one that they were handed later is the last of these, or passed later.
pub record WasMoment (d : Dialect) (order : List ((ℕ × ℕ) × Noted)) (assignments : List Assignment) (answered : List ((ℕ × ℕ) × replies.Reply)) (passed late : List Passed) : Type 0 where
  pub order_then : List ((ℕ × ℕ) × Noted)
  pub later_order : List ((ℕ × ℕ) × Noted)
  pub split_order : order ≡ order_then ++ later_order
  pub asked_then : List Assignment
  pub asked_later : List Assignment
  pub split_asked : assignments ≡ asked_then ++ asked_later
  pub ordered : asked_keys order_then ≡ map assigned_as asked_then
  pub heard : (a : Assignment) → Contains asked_then a → (command : Command) × IsAskedIn d (bytes_of_connection a.connection (heard_among passed)) a.turn command
  pub given : (connection : ℕ) → IsAnswered d (WasAnsweredBy asked_then answered order_then connection) (bytes_of_connection connection (heard_among passed)) (bytes_of_connection connection (given_among passed))
  pub moments : (moment : ℕ) → Contains (moments_in order_then) moment → Contains (moments_among passed) moment
  pub later : (moment : ℕ) → Contains (moments_in later_order) moment → IsSince (moments_among passed) (moments_among late) moment

-- each beginning of what passed was a moment
abbrev pub HasMoments : ServiceView → Type 0
HasMoments v = (early late : List Passed) → v.connections.passed ≡ early ++ late → WasMoment v.connections.dialect v.order v.assignments v.answered early late

-- it is the last moment that passed
abbrev pub IsPassedNow : List Passed → ℕ → Type 0
IsPassedNow passed moment = latest_of (moments_among passed) ≡ Some moment

-- these replicas and proxies, which asked and answered so, are a world
pub record HasEnsemble (v : ServiceView) : Type 0 where
  pub ensemble : EnsembleView
  pub these : ensemble ≡ v.replicas.ensemble
  pub world : IsEnsemble ensemble
  pub same_asked : ensemble.asked ≡ v.asked
  pub same_answered : ensemble.answered ≡ v.answered
  pub same_order : ensemble.order ≡ v.order

-- ---- what calls say

abbrev pub assigned : List (Assignment × ℕ) → List Assignment
assigned log = map (λ e. e.0) log

pub record HasSameRequests (v now : ServiceView) : Type 0 where
  pub asked : now.asked ≡ v.asked
  pub answered : now.answered ≡ v.answered
  pub order : now.order ≡ v.order
  pub assignments : now.assignments ≡ v.assignments
  pub waiting : now.waiting ≡ v.waiting
  pub replicas : now.replicas ≡ v.replicas

-- A piece came of a connection that is here; if the call failed it may not have been looked at.
abbrev pub Hears : ℕ → ℕ → List ℕ → ConnectionsView → ConnectionsView → Result Said Fault → Type 0
Hears key number piece v now (Ok said) = (now.heard ≡ v.heard ++ (number, piece) ∷ []) × (now.given ≡ v.given ++ (number, said.bytes.items) ∷ []) × (now.passed ≡ (v.passed ++ heard_as number piece ∷ []) ++ given_as number said.bytes.items ∷ []) × (said.key ≡ key) × (said.number ≡ number)
Hears key number piece v now (Err fault) = (((now.heard ≡ v.heard) × (now.passed ≡ v.passed)) ⊎ ((now.heard ≡ v.heard ++ (number, piece) ∷ []) × (now.passed ≡ v.passed ++ heard_as number piece ∷ []))) × (now.given ≡ v.given)

-- what is given came behind what was, and is logged
abbrev pub Gives : ConnectionsView → List Said → ConnectionsView → List Said → Type 0
Gives v said now said_now = (more : List Said) × (said_now ≡ said ++ more) × (now.given ≡ v.given ++ map given_entry more) × (now.passed ≡ v.passed ++ map passed_entry more)

abbrev pub GivesNothing : ConnectionsView → List Said → ConnectionsView → List Said → Type 0
GivesNothing v said now said_now = (said_now ≡ said) × (now.given ≡ v.given) × (now.passed ≡ v.passed)

abbrev pub GivesOne : ConnectionsView → List Said → ConnectionsView → List Said → Type 0
GivesOne v said now said_now = (given : Said) × (said_now ≡ said ++ given ∷ []) × (now.given ≡ v.given ++ given_entry given ∷ []) × (now.passed ≡ v.passed ++ passed_entry given ∷ [])

-- each of these was logged
abbrev pub AreLogged : List Answer → List ((ℕ × ℕ) × replies.Reply) → List ((ℕ × ℕ) × Noted) → Type 0
AreLogged answers log order = (a : Answer) → Contains answers a → Contains log (answer_entry a) × Contains order (order_entry a)

-- it is of the same process
pub record IsSameProcess (v now : ServiceView) : Type 0 where
  pub dialect : now.connections.dialect ≡ v.connections.dialect
  pub first : now.connections.first ≡ v.connections.first
  pub found : now.replicas.ensemble.found ≡ v.replicas.ensemble.found

-- `u` and the number of executors, verifiers and proxies stay
abbrev pub HasSameSize : ReplicasView → ReplicasView → Type 0
HasSameSize old new = size_of new.ensemble.nodes ≡ size_of old.ensemble.nodes

-- if nothing more was refused the replicas can do nothing more at once
abbrev pub RestsUnlessRefused : ReplicasView → ReplicasView → Type 0
RestsUnlessRefused old new = new.refused ≡ old.refused → old.refused < 2 ^ 64 - 1 → IsAtRest new.ensemble.nodes

-- a connection took the reply to its command, if it was here
pub record AnswersTo (a : Assignment) (reply : replies.Reply) (v now : ConnectionsView) (said said_now : List Said) : Type 0 where
  pub dialect : now.dialect ≡ v.dialect
  pub since : now.first ≡ v.first
  pub heard : now.heard ≡ v.heard
  pub taken : now.taken ≡ v.taken
  pub replied : (now.replied ≡ v.replied) ⊎ (now.replied ≡ v.replied ++ (command_number_of a, reply) ∷ [])
  pub gives : GivesNothing v said now said_now ⊎ GivesOne v said now said_now
