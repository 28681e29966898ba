-- What nodes do with letters in front of their mail.
use Rattle.std.proofs.Common.{inl, inr, ℕ, List, ◌++◌, map, Option, sym, ap, ◌∙◌, append_assoc}
use Rattle.sessions.specs.declared.request.Request.{Request}
use Rattle.decrees.specs.declared.ballot.Ballot.{Ballot}
use Rattle.decrees.specs.declared.node.Letter.{Letter}
use Rattle.decrees.specs.declared.node.Node.{Node}
use Rattle.decrees.specs.declared.node.Node.TheVariants as node
use Rattle.exec_lines.specs.declared.body.Body.{Body}
use Rattle.exec_lines.specs.declared.body.Body.TheVariants as body
use Rattle.verifier.specs.declared.input.Input.TheVariants as verifier_input
use Rattle.verifier.specs.Verifier.{VerifierView}
use Rattle.slots.specs.Slot.{Slot}
use Rattle.slots.specs.Sending.{as_sent}
use Rattle.hosts.specs.Host.{HostView, HostTakes}
use Rattle.ensemble.specs.declared.answer.Answer.{Answer}
use Rattle.ensemble.specs.Nodes.{NodesView, MayGrow, HostMoves, VerifierMoves, VerifierGets, VerifiersReached, ProxyReached, NodesReached, IsPosted, AsksAgain}
use Rattle.member.specs.Member.{with_leaving}

module _ (front : List (Letter Body)) where
  grows : (old sent now : List (Letter Body)) → MayGrow old sent now → MayGrow (front ++ old) sent (front ++ now)
  grows old sent now (inl more) = inl (ap (λ (ls : List (Letter Body)). front ++ ls) more ∙ sym (append_assoc front old sent))
  grows old sent now (inr same) = inr (ap (λ (ls : List (Letter Body)). front ++ ls) same)

  pub host_behind : (Does : HostView → HostView → List (Letter Body) → Type 0) (id : ℕ) (n now : NodesView) → HostMoves Does id n now → HostMoves Does id (with_leaving front n) (with_leaving front now)
  host_behind Does id n now m = (m.0, m.1, front ++ m.2, m.3, grows n.mail m.1 m.2 m.4, ap (with_leaving front) m.5)

  pub verifier_behind : (Does : Slot VerifierView → Slot VerifierView → List (Letter Ballot) → Type 0) (id : ℕ) (n now : NodesView) → VerifierMoves Does id n now → VerifierMoves Does id (with_leaving front n) (with_leaving front now)
  verifier_behind Does id n now m = (m.0, m.1, front ++ m.2, m.3, grows n.mail (map as_sent m.1) m.2 m.4, ap (with_leaving front) m.5)

  pub posted_behind : (n now : NodesView) (client : ℕ) (r : Request) → IsPosted n client r now → IsPosted (with_leaving front n) client r (with_leaving front now)
  posted_behind n now client r p = record {
    sent = p.sent;
    among = p.among;
    grows = grows n.mail p.sent now.mail p.grows;
    after = ap (with_leaving front) p.after;
  }

  pub again_behind : (n now : NodesView) (number : ℕ) → AsksAgain n number now → AsksAgain (with_leaving front n) number (with_leaving front now)
  again_behind n now number (inl asked) = inl (asked.0, asked.1, posted_behind n now number asked.0 asked.2)
  again_behind n now number (inr same) = inr (ap (with_leaving front) same)

  proxy_behind : (n now : NodesView) (client : ℕ) (b : Body) (answer : Option Answer) → ProxyReached n client b now answer → ProxyReached (with_leaving front n) client b (with_leaving front now) answer
  proxy_behind n now client (body.Reply number reply) answer r = (r.0, r.1, ap (with_leaving front) r.2)
  proxy_behind n now client (body.Want q) answer r = (ap (with_leaving front) r.0, r.1)
  proxy_behind n now client (body.Order q) answer r = (ap (with_leaving front) r.0, r.1)
  proxy_behind n now client (body.Need q) answer r = (ap (with_leaving front) r.0, r.1)
  proxy_behind n now client (body.Parcel q) answer r = (ap (with_leaving front) r.0, r.1)
  proxy_behind n now client (body.Ballot q) answer r = (ap (with_leaving front) r.0, r.1)

  verifiers_behind : (n now : NodesView) (l : Letter Body) (id : ℕ) (b : Body) → VerifiersReached n l id b now → VerifiersReached (with_leaving front n) l id b (with_leaving front now)
  verifiers_behind n now l id (body.Ballot q) r = verifier_behind (VerifierGets (verifier_input.Letter (record { from = l.from; to = l.to; body = q }))) id n now r
  verifiers_behind n now l id (body.Want q) r = ap (with_leaving front) r
  verifiers_behind n now l id (body.Order q) r = ap (with_leaving front) r
  verifiers_behind n now l id (body.Reply number reply) r = ap (with_leaving front) r
  verifiers_behind n now l id (body.Need q) r = ap (with_leaving front) r
  verifiers_behind n now l id (body.Parcel q) r = ap (with_leaving front) r

  pub reached_behind : (n now : NodesView) (l : Letter Body) (to : Node) (answer : Option Answer) → NodesReached n l to now answer → NodesReached (with_leaving front n) l to (with_leaving front now) answer
  reached_behind n now l (node.Client c) answer r = proxy_behind n now c l.body answer r
  reached_behind n now l (node.Executor id) answer r = (host_behind (λ h left sent. HostTakes h l left sent) id n now r.0, r.1)
  reached_behind n now l (node.Verifier id) answer r = (verifiers_behind n now l id l.body r.0, r.1)
