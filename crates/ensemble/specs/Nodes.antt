-- All nodes with the letters that are under way, and what one call does of them.
use Rattle.std.specs.Prelude.{◌≡◌, ◌⊎◌, ℕ, suc, Bool, true, List, [], ◌∷◌, ◌++◌, length, map, Option, None, Some, slice_get, slice_set, Contains, refl}
use Rattle.std.specs.Coded.{Coded, code_by, coded×, coded_ℕ, coded_list}
use Rattle.proto.specs.declared.command.Command.{Command}
use Rattle.proto.specs.declared.reply.Reply as replies
use Rattle.sessions.specs.declared.request.Request.{Request}
use Rattle.decrees.specs.declared.ballot.Ballot.{Ballot}
use Rattle.decrees.specs.declared.node.Letter.{Letter}
use Rattle.decrees.specs.declared.node.Node.{Node}
use Rattle.decrees.specs.declared.node.Node.TheVariants.{Client, Executor, Verifier}
use Rattle.verifier.specs.declared.input.Input as of_verifier
use Rattle.verifier.specs.declared.input.Input.TheVariants as verifier_input
use Rattle.verifier.specs.Verifier.{VerifierView}
use Rattle.exec_lines.specs.declared.body.Body.{Body}
use Rattle.exec_lines.specs.declared.body.Body.TheVariants as body
use Rattle.client.specs.Talk.{next_request, wants}
use Rattle.slots.specs.Slot.{Slot}
use Rattle.slots.specs.Slots.{VerifierSettles, VerifierReopens}
use Rattle.slots.specs.Sending.{as_sent}
use Rattle.proxies.specs.Proxy.{ProxyView, asks, answers, has_asked, request_of}
use Rattle.hosts.specs.Host.{HostView, HostTakes, HostRuns, HostObeys, HostForgets}
use Rattle.ensemble.specs.declared.answer.Answer.{Answer}

pub record NodesView : Type 0 where
  -- how many of 2u + 1 executors, and of as many verifiers, may fail
  pub u : ℕ
  -- by their numbers: proxies from 1, replicas from 0
  pub proxies : List ProxyView
  pub executors : List HostView
  pub verifiers : List (Slot VerifierView)
  -- the letters that are under way, but for those that hosts have
  pub mail : List (Letter Body)

-- u, and how many proxies, executors and verifiers there are
abbrev pub size_of : NodesView → ℕ × ℕ × ℕ × ℕ
size_of n = (n.u, length n.proxies, length n.executors, length n.verifiers)

-- proxies are numbered from 1
abbrev pub AreNumbered : List ProxyView → Type 0
AreNumbered proxies = (i : ℕ) (p : ProxyView) → slice_get proxies i ≡ Some p → p.client ≡ suc i

-- nodes are identified by what they have
abbrev pub nodes_code : Coded ProxyView → Coded HostView → Coded (Slot VerifierView) → Coded (Letter Body) → Coded NodesView
nodes_code proxy host verifier letter =
    code_by ((((ℕ × List ProxyView) × List HostView) × List (Slot VerifierView)) × List (Letter Body))
    (coded× (coded× (coded× (coded× coded_ℕ (coded_list proxy)) (coded_list host)) (coded_list verifier)) (coded_list letter))
    (λ n. ((((n.u, n.proxies), n.executors), n.verifiers), n.mail))
    (λ p. record { u = p.0.0.0.0; proxies = p.0.0.0.1; executors = p.0.0.1; verifiers = p.0.1; mail = p.1 })
    (λ _. refl)

-- what was sent just now is under way too, or was lost
abbrev pub MayGrow : List (Letter Body) → List (Letter Body) → List (Letter Body) → Type 0
MayGrow old sent now = (now ≡ old ++ sent) ⊎ (now ≡ old)

-- ---- one executor, one verifier

module _ (Does : HostView → HostView → List (Letter Body) → Type 0) where
  abbrev pub AtHostIn : ℕ → List HostView → List HostView → List (Letter Body) → Option HostView → Type 0
  AtHostIn id old now sent None = (now ≡ old) × (sent ≡ [])
  AtHostIn id old now sent (Some h) = (left : HostView) × Does h left sent × (now ≡ slice_set old id left)

  -- the host of this number, if it is there, did this
  abbrev pub AtHost : ℕ → List HostView → List HostView → List (Letter Body) → Type 0
  AtHost id old now sent = AtHostIn id old now sent (slice_get old id)

  -- and what it sent is under way
  abbrev pub HostMoves : ℕ → NodesView → NodesView → Type 0
  HostMoves id n now =
      (executors : List HostView) × (sent mail : List (Letter Body)) × AtHost id n.executors executors sent × MayGrow n.mail sent mail × (now ≡ record n { executors = executors; mail = mail })

module _ (Does : Slot VerifierView → Slot VerifierView → List (Letter Ballot) → Type 0) where
  abbrev pub AtVerifierIn : ℕ → List (Slot VerifierView) → List (Slot VerifierView) → List (Letter Ballot) → Option (Slot VerifierView) → Type 0
  AtVerifierIn id old now sent None = (now ≡ old) × (sent ≡ [])
  AtVerifierIn id old now sent (Some v) = (left : Slot VerifierView) × Does v left sent × (now ≡ slice_set old id left)

  -- the verifier of this number, if it is there, did this
  abbrev pub AtVerifier : ℕ → List (Slot VerifierView) → List (Slot VerifierView) → List (Letter Ballot) → Type 0
  AtVerifier id old now sent = AtVerifierIn id old now sent (slice_get old id)

  -- and what it sent is under way
  abbrev pub VerifierMoves : ℕ → NodesView → NodesView → Type 0
  VerifierMoves id n now =
      (verifiers : List (Slot VerifierView)) × (sent : List (Letter Ballot)) × (mail : List (Letter Body)) × AtVerifier id n.verifiers verifiers sent × MayGrow n.mail (map as_sent sent) mail × (now ≡ record n { verifiers = verifiers; mail = mail })

abbrev pub VerifierGets : of_verifier.Input → Slot VerifierView → Slot VerifierView → List (Letter Ballot) → Type 0
VerifierGets x v left sent = VerifierSettles v x left sent

abbrev pub VerifierOpens : ℕ → ℕ → Slot VerifierView → Slot VerifierView → List (Letter Ballot) → Type 0
VerifierOpens u id v left sent = VerifierReopens u id v left sent

-- it was told up to which place it may forget decrees, or nothing
abbrev pub VerifierTrims : Slot VerifierView → Slot VerifierView → List (Letter Ballot) → Type 0
VerifierTrims v left sent = ((left ≡ v) × (sent ≡ [])) ⊎ ((place : ℕ) × VerifierSettles v (verifier_input.Trim place) left sent)

-- ---- a letter comes

-- the request was answered so; it was outstanding
pub record ProxyAnswers (proxies : List ProxyView) (client number : ℕ) (reply : replies.Reply) (now : List ProxyView) (answer : Option Answer) : Type 0 where
  pub index : ℕ
  pub at : client ≡ suc index
  pub proxy : ProxyView
  pub there : slice_get proxies index ≡ Some proxy
  pub was_asked : has_asked proxy.asked number ≡ true
  pub after : now ≡ slice_set proxies index (answers proxy number)
  pub is : answer ≡ Some (record { proxy = client; number = number; reply = reply })

-- a reply comes to the proxy of this number: the request is answered, or nothing is done
abbrev pub ProxyGets : List ProxyView → ℕ → ℕ → replies.Reply → List ProxyView → Option Answer → Type 0
ProxyGets proxies client number reply now answer = ProxyAnswers proxies client number reply now answer ⊎ ((now ≡ proxies) × (answer ≡ None))

-- only replies are for proxies
abbrev pub ProxyReached : NodesView → ℕ → Body → NodesView → Option Answer → Type 0
ProxyReached n client (body.Reply number reply) now answer = (proxies : List ProxyView) × ProxyGets n.proxies client number reply proxies answer × (now ≡ record n { proxies = proxies })
ProxyReached n client (body.Want r) now answer = (now ≡ n) × (answer ≡ None)
ProxyReached n client (body.Order b) now answer = (now ≡ n) × (answer ≡ None)
ProxyReached n client (body.Need q) now answer = (now ≡ n) × (answer ≡ None)
ProxyReached n client (body.Parcel p) now answer = (now ≡ n) × (answer ≡ None)
ProxyReached n client (body.Ballot b) now answer = (now ≡ n) × (answer ≡ None)

-- only ballots are for verifiers
abbrev pub VerifiersReached : NodesView → Letter Body → ℕ → Body → NodesView → Type 0
VerifiersReached n l id (body.Ballot b) now = VerifierMoves (VerifierGets (verifier_input.Letter (record { from = l.from; to = l.to; body = b }))) id n now
VerifiersReached n l id (body.Want r) now = now ≡ n
VerifiersReached n l id (body.Order b) now = now ≡ n
VerifiersReached n l id (body.Reply number reply) now = now ≡ n
VerifiersReached n l id (body.Need q) now = now ≡ n
VerifiersReached n l id (body.Parcel p) now = now ≡ n

-- the letter comes to the node that it names
abbrev pub NodesReached : NodesView → Letter Body → Node → NodesView → Option Answer → Type 0
NodesReached n l (Client c) now answer = ProxyReached n c l.body now answer
NodesReached n l (Executor id) now answer = HostMoves (λ h left sent. HostTakes h l left sent) id n now × (answer ≡ None)
NodesReached n l (Verifier id) now answer = VerifiersReached n l id l.body now × (answer ≡ None)

-- the first of these letters comes
abbrev pub DeliversOf : NodesView → List (Letter Body) → NodesView → Option Answer → Type 0
DeliversOf n [] now answer = (now ≡ n) × (answer ≡ None)
DeliversOf n (l ∷ rest) now answer = NodesReached (record n { mail = rest }) l l.to now answer

abbrev pub Delivers : NodesView → NodesView → Option Answer → Type 0
Delivers n now answer = DeliversOf n n.mail now answer

-- ---- jobs

-- each executor ran its job, if it had one
pub record AllRan (old now : List HostView) : Type 0 where
  pub same : length now ≡ length old
  pub each : (i : ℕ) (h left : HostView) → slice_get old i ≡ Some h → slice_get now i ≡ Some left → HostRuns h left

abbrev pub RunsAll : NodesView → NodesView → Type 0
RunsAll n now = (executors : List HostView) × AllRan n.executors executors × (now ≡ record n { executors = executors })

-- ---- a proxy asks

-- the proxy of this number is there and free
pub record IsFree (proxies : List ProxyView) (number : ℕ) : Type 0 where
  pub index : ℕ
  pub at : number ≡ suc index
  pub proxy : ProxyView
  pub there : slice_get proxies index ≡ Some proxy
  pub none : proxy.asked ≡ None

-- it asked the command, as this request
pub record IsAskedBy (proxies : List ProxyView) (number : ℕ) (command : Command) (quiet : Bool) (now : List ProxyView) (r : Request) : Type 0 where
  pub index : ℕ
  pub at : number ≡ suc index
  pub proxy : ProxyView
  pub there : slice_get proxies index ≡ Some proxy
  pub free : proxy.asked ≡ None
  pub is : r ≡ next_request proxy.client proxy.last command
  pub after : now ≡ slice_set proxies index (asks proxy command quiet)

-- this request of a client is under way to executors, or lost to some or all of them
pub record IsPosted (n : NodesView) (client : ℕ) (r : Request) (now : NodesView) : Type 0 where
  pub sent : List (Letter Body)
  pub among : (l : Letter Body) → Contains sent l → Contains (wants n.u client r) l
  pub grows : MayGrow n.mail sent now.mail
  pub after : now ≡ record n { mail = now.mail }

-- the proxy of this number has this request outstanding
pub record IsOutstanding (proxies : List ProxyView) (number : ℕ) (r : Request) : Type 0 where
  pub index : ℕ
  pub at : number ≡ suc index
  pub proxy : ProxyView
  pub there : slice_get proxies index ≡ Some proxy
  pub is : request_of proxy.asked ≡ Some r

-- what the proxy of this number has outstanding is sent once more
abbrev pub AsksAgain : NodesView → ℕ → NodesView → Type 0
AsksAgain n number now = ((r : Request) × IsOutstanding n.proxies number r × IsPosted n number r now) ⊎ (now ≡ n)

-- ---- one call for one replica

-- an order that was held is handed in, or some are let go
abbrev pub HostAdvances : HostView → HostView → List (Letter Body) → Type 0
HostAdvances h left sent = HostObeys h left sent ⊎ (HostForgets h left × (sent ≡ []))
