-- What calls do of the nodes if nothing is refused.
use Rattle.std.specs.Prelude.{◌≡◌, ◌≢◌, ℕ, ◌+◌, ◌*◌, ◌<◌, List, [], ◌∷◌, ◌++◌, map, false, Option, None, Some, slice_get, if◌then◌else◌}
use Rattle.std.specs.List.{list_any}
use Rattle.proto.specs.declared.command.Command.{Command}
use Rattle.sessions.specs.declared.request.Request.{Request}
use Rattle.decrees.specs.declared.ballot.Ballot.{Ballot}
use Rattle.decrees.specs.declared.node.Letter.{Letter}
use Rattle.decrees.specs.declared.node.Node.TheVariants as node
use Rattle.events.specs.declared.event.Replica.TheVariants as replica
use Rattle.exec_lines.specs.declared.body.Body.{Body}
use Rattle.exec_lines.specs.declared.body.Body.TheVariants.{Want}
use Rattle.verifier.specs.Verifier.{VerifierView}
use Rattle.client.specs.Talk.{client_letter, wants}
use Rattle.slots.specs.Slot.{Slot}
use Rattle.slots.specs.Sending.{as_sent}
use Rattle.hosts.specs.Host.{HostView}
use Rattle.hosts.specs.Orders.{has_due}
use Rattle.ensemble.specs.Nodes.{NodesView, AtVerifier}
use Rattle.ensemble.specs.Shown.{outstanding_at, is_up_at, leader_of, has_job, would_cut}

-- the request, to the executor that leads if it is up, and else to all
abbrev pub letters_asked : NodesView → ℕ → Request → List (Letter Body)
letters_asked n client r =
    if is_up_at n (replica.Executor (leader_of n)) then client_letter client (node.Executor (leader_of n)) (Want r) ∷ []
    else wants n.u client r

abbrev pub letters_to_all : NodesView → ℕ → Option Request → List (Letter Body)
letters_to_all n client None = []
letters_to_all n client (Some r) = wants n.u client r

-- what the proxy of this number has outstanding, to all executors
abbrev pub letters_again : NodesView → ℕ → List (Letter Body)
letters_again n proxy = letters_to_all n proxy (outstanding_at n.proxies proxy)

-- this request was asked, and is under way
pub record IsUnderWay (old now : NodesView) (proxy number : ℕ) (command : Command) : Type 0 where
  pub request : Request
  pub numbered : request.number ≡ number
  pub asks : request.command ≡ command
  pub sent : now.mail ≡ old.mail ++ letters_asked old proxy request

-- the verifier of this number, if it is there, did this, and what it sent is under way
abbrev pub VerifierPosts : (Slot VerifierView → Slot VerifierView → List (Letter Ballot) → Type 0) → ℕ → NodesView → NodesView → Type 0
VerifierPosts Does id n now =
    (verifiers : List (Slot VerifierView)) × (sent : List (Letter Ballot)) × AtVerifier Does id n.verifiers verifiers sent × (now ≡ record n { verifiers = verifiers; mail = n.mail ++ map as_sent sent })

-- ---- at rest

-- No cut would give a batch of the executor of this number, if it is there; the others are as they were.
pub record NoBatchAt (id : ℕ) (n now : NodesView) : Type 0 where
  pub here : (h : HostView) → slice_get now.executors id ≡ Some h → would_cut h.slot ≡ false
  pub others : (i : ℕ) → i ≢ id → slice_get now.executors i ≡ slice_get n.executors i

-- no cut would give a batch of an executor below this number
abbrev pub NoBatchBelow : ℕ → NodesView → Type 0
NoBatchBelow count n = (id : ℕ) (h : HostView) → id < count → slice_get n.executors id ≡ Some h → would_cut h.slot ≡ false

-- No letter is under way, no executor has a job, no host holds an order that its executor could obey now, and no cut would give a batch.
pub record IsAtRest (n : NodesView) : Type 0 where
  pub none_comes : n.mail ≡ []
  pub none_runs : list_any has_job n.executors ≡ false
  pub none_is_due : list_any has_due n.executors ≡ false
  pub none_is_cut : NoBatchBelow (2 * n.u + 1) n
