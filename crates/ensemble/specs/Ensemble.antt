-- What an ensemble keeps, and what is always true of it.
use Rattle.std.specs.Prelude.{◌≡◌, ℕ, suc, ◌==◌, Bool, true, List, [], ◌∷◌, ◌++◌, length, map, Option, None, Some, Contains, slice_get, filter, refl}
use Rattle.std.specs.Coded.{Coded, code_by, coded×, coded_ℕ, coded_bool, coded_list, coded_option}
use Rattle.proto.specs.declared.command.Command.{Command}
use Rattle.proto.specs.declared.reply.Reply as replies
use Rattle.proto.specs.declared.turn.Turn.{Turn}
use Rattle.proto.specs.declared.turn.Turn.TheVariants.{Ask}
use Rattle.proto.specs.Grammar.{Spells}
use Rattle.sessions.specs.declared.request.Request.{Request}
use Rattle.decrees.specs.declared.node.Letter.{Letter}
use Rattle.decrees.specs.declared.node.Node.TheVariants.{Executor}
use Rattle.exec_lines.specs.declared.body.Body.{Body}
use Rattle.client.specs.Client.{ClientView}
use Rattle.events.specs.declared.event.Event.{Event}
use Rattle.events.specs.declared.event.Event.TheVariants.{Cut}
use Rattle.events.specs.Config.{ConfigView}
use Rattle.worlds.specs.World.{WorldView, IsReached}
use Rattle.memcached_spec.specs.Fed.{fed_to, IsMoment}
use Rattle.memcached_spec.specs.Asked.{IsAsked}
use Rattle.worlds.specs.Asked.{WasSent}
use Rattle.proxies.specs.Proxy.{ProxyView, talk_of}
use Rattle.hosts.specs.Host.{HostView}
use Rattle.ensemble.specs.declared.answer.Answer.{Answer}
use Rattle.ensemble.specs.declared.noted.Noted.{Noted}
use Rattle.ensemble.specs.declared.noted.Noted.TheVariants as noted
use Rattle.ensemble.specs.Nodes.{NodesView}
use Rattle.ensemble.specs.Kept.{ProcessView}
use Rattle.ensemble.specs.Moments.{moments_in, IsNow}

pub record EnsembleView : Type 0 where
  pub nodes : NodesView
  -- each request that was asked, and whether its reply is left out of what the connection is given
  pub asked : List (Request × Bool)
  -- each answer: the proxy and the request's number, and the reply
  pub answered : List ((ℕ × ℕ) × replies.Reply)
  -- in which order: the proxy and the request's number, and whether it was asked or answered, and each moment that was handed in
  pub order : List ((ℕ × ℕ) × Noted)
  -- how often something was not done for want of memory, or since a bound was reached
  pub refused : ℕ
  -- what its process began with, if it began with what was kept of another one
  pub found : Option ProcessView

-- an ensemble is identified by what it has
abbrev pub ensemble_code : Coded NodesView → Coded Request → Coded (replies.Reply) → Coded Noted → Coded ProcessView → Coded EnsembleView
ensemble_code nodes request reply note found =
    code_by (((((NodesView × List (Request × Bool)) × List ((ℕ × ℕ) × replies.Reply)) × List ((ℕ × ℕ) × Noted)) × ℕ) × Option ProcessView)
    (coded× (coded× (coded× (coded× (coded× nodes (coded_list (coded× request coded_bool))) (coded_list (coded× (coded× coded_ℕ coded_ℕ) reply))) (coded_list (coded× (coded× coded_ℕ coded_ℕ) note))) coded_ℕ) (coded_option found))
    (λ e. (((((e.nodes, e.asked), e.answered), e.order), e.refused), e.found))
    (λ p. record { nodes = p.0.0.0.0.0; asked = p.0.0.0.0.1; answered = p.0.0.0.1; order = p.0.0.1; refused = p.0.1; found = p.1 })
    (λ _. refl)

-- what was found, if something was
abbrev pub first_found : List (ProcessView × Bool) → Option ProcessView
first_found [] = None
first_found (e ∷ rest) = Some e.0

-- ---- logs

abbrev pub answer_entry : Answer → (ℕ × ℕ) × replies.Reply
answer_entry a = ((a.proxy, a.number), a.reply)

abbrev pub answer_log : Option Answer → List ((ℕ × ℕ) × replies.Reply)
answer_log None = []
answer_log (Some a) = answer_entry a ∷ []

-- what an answer adds to the order
abbrev pub order_entry : Answer → (ℕ × ℕ) × Noted
order_entry a = ((a.proxy, a.number), noted.Answered)

abbrev pub order_log : Option Answer → List ((ℕ × ℕ) × Noted)
order_log None = []
order_log (Some a) = order_entry a ∷ []

-- a moment that was handed in. No proxy has the number 0
abbrev pub moment_entry : ℕ → (ℕ × ℕ) × Noted
moment_entry moment = ((0, moment), noted.Moment)

-- nothing more was asked or answered
pub record KeepsLogs (e now : EnsembleView) : Type 0 where
  pub asked : now.asked ≡ e.asked
  pub found : now.found ≡ e.found
  pub answered : now.answered ≡ e.answered
  pub order : now.order ≡ e.order

-- one more request was asked: this one
pub record IsLogged (asked : List (Request × Bool)) (proxy number : ℕ) (command : Command) (quiet : Bool) (now : List (Request × Bool)) : Type 0 where
  pub request : Request
  pub of_proxy : request.client ≡ proxy
  pub numbered : request.number ≡ number
  pub asks : request.command ≡ command
  pub after : now ≡ asked ++ (request, quiet) ∷ []

-- ---- what was asked, as bytes spell it

abbrev pub is_of : ℕ → Request × Bool → Bool
is_of client a = a.0.client == client

-- what this client asked, in order
abbrev pub asks_of : ℕ → List (Request × Bool) → List (Request × Bool)
asks_of client asked = filter (is_of client) asked

abbrev pub asked_turn : Request × Bool → Turn
asked_turn a = Ask a.0.command a.1

abbrev pub turns_of : ℕ → List (Request × Bool) → List Turn
turns_of client asked = map asked_turn (asks_of client asked)

-- ---- an ensemble and a world

-- a proxy is a client of the world
abbrev pub client_of : ℕ → ProxyView → ClientView
client_of u p = record { client = p.client; u = u; talk = talk_of p; up = true }

-- what a host has of letters was sent to its executor
pub record HasSent (h : HostView) (id : ℕ) (letters : List (Letter Body)) : Type 0 where
  pub held : (l : Letter Body) → Contains h.held l → Contains letters l × (l.to ≡ Executor id)
  pub sent : (l : Letter Body) → Contains h.sent l → Contains letters l

-- the world has the same nodes, and each letter that is under way was sent in it
pub record IsLike (n : NodesView) (w : WorldView) : Type 0 where
  pub same_u : w.u ≡ n.u
  pub executors : w.executors ≡ map (λ h. h.slot) n.executors
  pub verifiers : w.verifiers ≡ n.verifiers
  pub clients : map (λ slot. slot.client) w.clients ≡ map (client_of n.u) n.proxies
  pub mail : (l : Letter Body) → Contains n.mail l → Contains w.letters l
  pub hosts : (id : ℕ) (h : HostView) → slice_get n.executors id ≡ Some h → HasSent h id w.letters

-- At a moment between the events just these were asked, and these answers were sent. Each cut so far was at a moment that had been handed in by then. Worlds are those that the events lead to, the first one before all of them.
pub record IsPast (events : List Event) (worlds : List WorldView) (early : List ((ℕ × ℕ) × Noted)) : Type 0 where
  pub before : List Event
  pub after : List Event
  pub split : events ≡ before ++ after
  pub now : WorldView
  pub there : slice_get worlds (length before) ≡ Some now
  pub asked : (client number : ℕ) (command : Command) → IsAsked (fed_to client before) number command → Contains early ((client, number), noted.Asked)
  pub sent : (client number : ℕ) → Contains early ((client, number), noted.Answered) → (reply : replies.Reply) × WasSent now.letters client number reply
  pub moments : (moment : ℕ) → IsMoment before moment → Contains (moments_in early) moment

-- After these events a batch was cut at this moment: when just a beginning of the order had been noted, it was the moment of now, and what the events ask had been asked.
pub record IsCutAt (order : List ((ℕ × ℕ) × Noted)) (events : List Event) (moment : ℕ) : Type 0 where
  pub early : List ((ℕ × ℕ) × Noted)
  pub late : List ((ℕ × ℕ) × Noted)
  pub split : order ≡ early ++ late
  pub now : IsNow early moment
  pub asked : (client number : ℕ) (command : Command) → IsAsked (fed_to client events) number command → Contains early ((client, number), noted.Asked)

-- so was each batch
abbrev pub AreCut : List ((ℕ × ℕ) × Noted) → List Event → Type 0
AreCut order events = (before after : List Event) (executor moment : ℕ) → events ≡ before ++ Cut executor moment ∷ after → IsCutAt order before moment

-- What is always true of an ensemble: it is a world that events lead to, in which just that was asked and answered which was.
pub record IsEnsemble (e : EnsembleView) : Type 0 where
  pub config : ConfigView
  pub events : List Event
  pub now : WorldView
  pub same_u : config.u ≡ e.nodes.u
  pub clients : config.clients ≡ length e.nodes.proxies
  pub through : IsReached config events now
  pub like : IsLike e.nodes now
  -- proxies are numbered from 1, and each has asked so many requests, which are numbered from 1 too
  pub numbered : (i : ℕ) (p : ProxyView) → slice_get e.nodes.proxies i ≡ Some p → (p.client ≡ suc i) × (p.last ≡ length (asks_of (suc i) e.asked))
  pub in_order : (client k : ℕ) (a : Request × Bool) → slice_get (asks_of client e.asked) k ≡ Some a → a.0.number ≡ suc k
  -- each client was fed just what was asked, and nothing is left of that
  pub fed : (client : ℕ) → Spells (fed_to client events) (turns_of client e.asked) []
  -- each answer was sent
  pub answers : (a : (ℕ × ℕ) × replies.Reply) → Contains e.answered a → WasSent now.letters a.0.0 a.0.1 a.1
  -- all that was asked is in the order, and an answer in the order was given
  pub ordered_asks : (a : Request × Bool) → Contains e.asked a → Contains e.order ((a.0.client, a.0.number), noted.Asked)
  pub ordered_answers : (client number : ℕ) → Contains e.order ((client, number), noted.Answered) → (reply : replies.Reply) × Contains e.answered ((client, number), reply)
  -- each cut was at the moment that was handed in last, and all that had been asked by then was asked before that
  pub cuts : AreCut e.order events
  -- each beginning of the order is what had been asked and answered at a moment
  pub past : (early late : List ((ℕ × ℕ) × Noted)) → e.order ≡ early ++ late → IsPast events through.worlds early

-- answers came behind these, and were logged in order
pub record Answers (log : List ((ℕ × ℕ) × replies.Reply)) (order : List ((ℕ × ℕ) × Noted)) (answers : List Answer) (log_now : List ((ℕ × ℕ) × replies.Reply)) (order_now : List ((ℕ × ℕ) × Noted)) (answers_now : List Answer) : Type 0 where
  pub added : List Answer
  pub after : answers_now ≡ answers ++ added
  pub logged : log_now ≡ log ++ map answer_entry added
  pub ordered : order_now ≡ order ++ map order_entry added
