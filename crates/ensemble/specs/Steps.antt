-- What each call does of an ensemble: one of these steps, or some of them one after the other.
use Rattle.std.specs.Prelude.{◌≡◌, ◌⊎◌, ℕ, Bool, List, [], ◌∷◌, ◌++◌, Option}
use Rattle.std.specs.declared.alloc.Global.{Global}
use Rattle.proto.specs.declared.command.Command.{Command}
use Rattle.sessions.specs.declared.request.Request.{Request}
use Rattle.exec_lines.specs.declared.input.Input.TheVariants as executor_input
use Rattle.verifier.specs.declared.input.Input.TheVariants as verifier_input
use Rattle.hosts.specs.Host.{HostSettles, HostReopens, HostCollects}
use Rattle.hosts.specs.Stops.{HostStops}
use Rattle.memcached_spec.specs.Asked.{HasText}
use Rattle.ensemble.specs.declared.answer.Answer.{Answer}
use Rattle.ensemble.specs.declared.noted.Noted.TheVariants as noted
use Rattle.ensemble.specs.Nodes.{NodesView, HostMoves, HostAdvances, VerifierMoves, VerifierGets, VerifierOpens, VerifierTrims, Delivers, RunsAll, IsAskedBy, IsPosted, AsksAgain}
use Rattle.ensemble.specs.Calls.{VerifierCrashes}
use Rattle.ensemble.specs.Moments.{IsNow}
use Rattle.ensemble.specs.Ensemble.{EnsembleView, answer_log, order_log, moment_entry}

-- an executor cuts a batch, at the moment of now
pub record IsCutNow (e : EnsembleView) (n : NodesView) : Type 0 where
  pub id : ℕ
  pub moment : ℕ
  pub now : IsNow e.order moment
  pub moves : HostMoves (λ h left sent. HostSettles h (executor_input.Cut moment) left sent) id e.nodes n

-- what is done of executors: one is given an order that it held, cuts, sends what its jobs left, is opened, or stops; or all run their jobs
abbrev pub ExecutorsGoOn : EnsembleView → NodesView → Type 0
ExecutorsGoOn e n =
    ((id : ℕ) × HostMoves HostAdvances id e.nodes n)
    ⊎ IsCutNow e n
    ⊎ ((id : ℕ) × HostMoves HostCollects id e.nodes n)
    ⊎ ((id : ℕ) × HostMoves (λ h left sent. HostReopens e.nodes.u id h left sent) id e.nodes n)
    ⊎ ((id : ℕ) × HostMoves HostStops id e.nodes n)
    ⊎ RunsAll e.nodes n

-- what is done of verifiers: one suspects the leader, forgets decrees, is opened, or stops
abbrev pub VerifiersGoOn : EnsembleView → NodesView → Type 0
VerifiersGoOn e n =
    ((id : ℕ) × VerifierMoves (VerifierGets verifier_input.Suspect) id e.nodes n)
    ⊎ ((id : ℕ) × VerifierMoves VerifierTrims id e.nodes n)
    ⊎ ((id : ℕ) × VerifierMoves (VerifierOpens e.nodes.u id) id e.nodes n)
    ⊎ ((id : ℕ) × VerifierMoves VerifierCrashes id e.nodes n)

-- or a proxy asks again
abbrev pub NodesGoOn : EnsembleView → NodesView → Type 0
NodesGoOn e n = ExecutorsGoOn e n ⊎ VerifiersGoOn e n ⊎ ((number : ℕ) × AsksAgain e.nodes number n)

-- a letter comes
pub record LetterComes (e now : EnsembleView) : Type 0 where
  pub answer : Option Answer
  pub delivers : Delivers e.nodes now.nodes answer
  pub after : now ≡ record { nodes = now.nodes; asked = e.asked; answered = e.answered ++ answer_log answer; order = e.order ++ order_log answer; refused = e.refused; found = e.found }

-- a proxy asks
pub record ProxyAsks (e now : EnsembleView) : Type 0 where
  pub alloc : Global
  pub number : ℕ
  pub command : Command
  pub quiet : Bool
  pub request : Request
  pub text : HasText command quiet
  pub asking : NodesView
  pub asked_by : IsAskedBy e.nodes.proxies number command quiet asking.proxies request
  pub only : asking ≡ record e.nodes { proxies = asking.proxies }
  pub posted : IsPosted asking number request now.nodes
  pub after : now ≡ record { nodes = now.nodes; asked = e.asked ++ (request, quiet) ∷ []; answered = e.answered; order = e.order ++ ((number, request.number), noted.Asked) ∷ []; refused = e.refused; found = e.found }

-- one step: the nodes go on, a letter comes, a proxy asks, a moment is noted, or more is counted as refused
abbrev pub IsEnsembleStep : EnsembleView → EnsembleView → Type 0
IsEnsembleStep e now =
    ((n : NodesView) × NodesGoOn e n × (now ≡ record e { nodes = n }))
    ⊎ LetterComes e now
    ⊎ ProxyAsks e now
    ⊎ ((moment : ℕ) × (now ≡ record e { order = e.order ++ moment_entry moment ∷ [] }))
    ⊎ ((refused : ℕ) × (now ≡ record e { refused = refused }))

-- one ensemble after each step
abbrev pub AreEnsembleSteps : EnsembleView → List EnsembleView → Type 0
AreEnsembleSteps e [] = Unit {0}
AreEnsembleSteps e (now ∷ later) = IsEnsembleStep e now × AreEnsembleSteps now later

abbrev pub last_ensemble : EnsembleView → List EnsembleView → EnsembleView
last_ensemble e [] = e
last_ensemble e (now ∷ later) = last_ensemble now later
