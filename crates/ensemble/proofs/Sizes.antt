-- No call changes u, or how many nodes there are.
use Rattle.std.proofs.Common.{◌≡◌, ◌⊎◌, inl, inr, ℕ, Bool, List, [], ◌∷◌, length, Option, None, Some, slice_get, ap, ◌∙◌}
use Rattle.proto.specs.declared.command.Command.{Command}
use Rattle.proto.specs.declared.reply.Reply as replies
use Rattle.sessions.specs.declared.request.Request.{Request}
use Rattle.decrees.specs.declared.ballot.Ballot.{Ballot}
use Rattle.decrees.specs.declared.node.Letter.{Letter}
use Rattle.decrees.specs.declared.node.Node.{Node}
use Rattle.decrees.specs.declared.node.Node.TheVariants as node
use Rattle.exec_lines.specs.declared.body.Body.{Body}
use Rattle.exec_lines.specs.declared.body.Body.TheVariants as body
use Rattle.verifier.specs.Verifier.{VerifierView}
use Rattle.slots.specs.Slot.{Slot}
use Rattle.proxies.specs.Proxy.{ProxyView, asks, answers}
use Rattle.hosts.specs.Host.{HostView}
use Rattle.ensemble.specs.declared.answer.Answer.{Answer}
use Rattle.ensemble.specs.Nodes.{NodesView, size_of, AtHostIn, HostMoves, AtVerifierIn, VerifierMoves, ProxyGets, ProxyReached, VerifiersReached, NodesReached, DeliversOf, Delivers, RunsAll, IsAskedBy, IsPosted, AsksAgain}
use Rattle.ensemble.proofs.Lists.{length_set}

pub host_size : (Does : HostView → HostView → List (Letter Body) → Type 0) (id : ℕ) (n now : NodesView) → HostMoves Does id n now → size_of now ≡ size_of n
host_size Does id n now m = ap size_of m.5 ∙ (λ i. (n.u, length n.proxies, by (slice_get n.executors id) m.3 i, length n.verifiers))
  where
    by : (o : Option HostView) → AtHostIn Does id n.executors m.0 m.1 o → length m.0 ≡ length n.executors
    by None did = ap length did.0
    by (Some h) did = ap length did.2 ∙ length_set n.executors id did.0

pub verifier_size : (Does : Slot VerifierView → Slot VerifierView → List (Letter Ballot) → Type 0) (id : ℕ) (n now : NodesView) → VerifierMoves Does id n now → size_of now ≡ size_of n
verifier_size Does id n now m = ap size_of m.5 ∙ (λ i. (n.u, length n.proxies, length n.executors, by (slice_get n.verifiers id) m.3 i))
  where
    by : (o : Option (Slot VerifierView)) → AtVerifierIn Does id n.verifiers m.0 m.1 o → length m.0 ≡ length n.verifiers
    by None did = ap length did.0
    by (Some v) did = ap length did.2 ∙ length_set n.verifiers id did.0

pub runs_size : (n now : NodesView) → RunsAll n now → size_of now ≡ size_of n
runs_size n now m = ap size_of m.2 ∙ (λ i. (n.u, length n.proxies, m.1.same i, length n.verifiers))

-- or nothing was done
pub open_host_size : (Does : HostView → HostView → List (Letter Body) → Type 0) (id : ℕ) (n now : NodesView) → HostMoves Does id n now ⊎ (now ≡ n) → size_of now ≡ size_of n
open_host_size Does id n now (inl m) = host_size Does id n now m
open_host_size Does id n now (inr same) = ap size_of same

pub open_verifier_size : (Does : Slot VerifierView → Slot VerifierView → List (Letter Ballot) → Type 0) (id : ℕ) (n now : NodesView) → VerifierMoves Does id n now ⊎ (now ≡ n) → size_of now ≡ size_of n
open_verifier_size Does id n now (inl m) = verifier_size Does id n now m
open_verifier_size Does id n now (inr same) = ap size_of same

-- ---- proxies

pub ask_size : (n mid now : NodesView) (number : ℕ) (command : Command) (quiet : Bool) (r : Request) → IsAskedBy n.proxies number command quiet mid.proxies r → mid ≡ record n { proxies = mid.proxies } → IsPosted mid number r now → size_of now ≡ size_of n
ask_size n mid now number command quiet r a is posted =
    let count : length mid.proxies ≡ length n.proxies = ap length a.after ∙ length_set n.proxies a.index (asks a.proxy command quiet) in
    ap size_of posted.after ∙ (ap size_of is ∙ (λ i. (n.u, count i, length n.executors, length n.verifiers)))

pub again_size : (n : NodesView) (number : ℕ) (now : NodesView) → AsksAgain n number now → size_of now ≡ size_of n
again_size n number now (inl m) = ap size_of m.2.after
again_size n number now (inr same) = ap size_of same

-- ---- a letter comes

proxy_size : (n : NodesView) (client number : ℕ) (reply : replies.Reply) (proxies : List ProxyView) (answer : Option Answer) → ProxyGets n.proxies client number reply proxies answer → length proxies ≡ length n.proxies
proxy_size n client number reply proxies answer (inl r) = ap length r.after ∙ length_set n.proxies r.index (answers r.proxy number)
proxy_size n client number reply proxies answer (inr same) = ap length same.0

reached_size : (n : NodesView) (l : Letter Body) (to : Node) (now : NodesView) (answer : Option Answer) → NodesReached n l to now answer → size_of now ≡ size_of n
reached_size n l (node.Executor id) now answer m = host_size _ id n now m.0
reached_size n l (node.Client c) now answer m = by l.body m
  where
    by : (b : Body) → ProxyReached n c b now answer → size_of now ≡ size_of n
    by (body.Reply number reply) r = ap size_of r.2 ∙ (λ i. (n.u, proxy_size n c number reply r.0 answer r.1 i, length n.executors, length n.verifiers))
    by (body.Want q) same = ap size_of same.0
    by (body.Order q) same = ap size_of same.0
    by (body.Need q) same = ap size_of same.0
    by (body.Parcel q) same = ap size_of same.0
    by (body.Ballot q) same = ap size_of same.0
reached_size n l (node.Verifier id) now answer m = by l.body m.0
  where
    by : (b : Body) → VerifiersReached n l id b now → size_of now ≡ size_of n
    by (body.Ballot b) v = verifier_size _ id n now v
    by (body.Want q) same = ap size_of same
    by (body.Order q) same = ap size_of same
    by (body.Reply number reply) same = ap size_of same
    by (body.Need q) same = ap size_of same
    by (body.Parcel q) same = ap size_of same

pub deliver_size : (n now : NodesView) (answer : Option Answer) → Delivers n now answer → size_of now ≡ size_of n
deliver_size n now answer d = by n.mail d
  where
    by : (mail : List (Letter Body)) → DeliversOf n mail now answer → size_of now ≡ size_of n
    by [] same = ap size_of same.0
    by (l ∷ rest) reached = reached_size (record n { mail = rest }) l l.to now answer reached
