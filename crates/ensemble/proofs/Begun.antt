-- The ensemble of a process that begins with what was kept of another one.
use Rattle.std.proofs.Common.{◌≡◌, ℕ, Bool, true, List, [], ◌∷◌, Option, sym, ap, subst}
use Rattle.proto.specs.declared.reply.Reply as replies
use Rattle.sessions.specs.declared.request.Request.{Request}
use Rattle.hosts.specs.Host.{HostView}
use Rattle.ensemble.specs.declared.noted.Noted.{Noted}
use Rattle.ensemble.specs.Nodes.{NodesView}
use Rattle.ensemble.specs.Ensemble.{EnsembleView, first_found}
use Rattle.ensemble.specs.Process.{reopened_ensemble, IsEnsembleAfter}
use Rattle.ensemble.specs.Calls.{AllCollected}
use Rattle.ensemble.specs.Kept.{ProcessView, down_host, begun_with}
use Rattle.ensemble.proofs.Lists.{get_map}
use Rattle.ensemble.proofs.Ending.{begins_after}

pub begun_collected : (p : ProcessView) → AllCollected (begun_with p)
begun_collected p id h below at = sym (ap (λ (x : HostView). x.sent) (get_map down_host p.executors id h at).2)

-- an ensemble with these nodes and logs
abbrev pub with_logs : NodesView → List (Request × Bool) → List ((ℕ × ℕ) × replies.Reply) → List ((ℕ × ℕ) × Noted) → List (ProcessView × Bool) → EnsembleView
with_logs nodes asked answered order found = record { nodes = nodes; asked = asked; answered = answered; order = order; refused = 0; found = first_found found }

module _ (p : ProcessView) (nodes : NodesView) (asked : List (Request × Bool)) (answered : List ((ℕ × ℕ) × replies.Reply)) (order : List ((ℕ × ℕ) × Noted)) (found : List (ProcessView × Bool))
    (begun : nodes ≡ begun_with p) (none_asked : asked ≡ []) (none_answered : answered ≡ []) (none_ordered : order ≡ []) (noted : found ≡ (p, true) ∷ []) where
  pub reopened_is : with_logs nodes asked answered order found ≡ reopened_ensemble p
  reopened_is = λ i. with_logs (begun i) (none_asked i) (none_answered i) (none_ordered i) (noted i)

  pub reopened_follows : IsEnsembleAfter (first_found found) (with_logs nodes asked answered order found)
  reopened_follows =
      subst (λ (x : Option ProcessView × EnsembleView). IsEnsembleAfter x.0 x.1) (sym (λ i. (first_found (noted i), reopened_is i))) (begins_after p)
