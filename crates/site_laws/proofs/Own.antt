-- What a member does is done of its own replicas alone.
use Rattle.std.proofs.Common.{◌≡◌, inl, inr, ℕ, zero, suc, List, [], ◌∷◌, ◌++◌, Option, None, Some, slice_get, slice_set, refl, sym, ap, ◌∙◌, subst}
use Rattle.std.specs.Prelude.{replicate}
use Rattle.sessions.specs.declared.request.Request.{Request}
use Rattle.decrees.specs.Count.{member_count}
use Rattle.decrees.specs.declared.ballot.Ballot.{Ballot}
use Rattle.decrees.specs.declared.node.Letter.{Letter}
use Rattle.decrees.specs.declared.node.Node.{Node}
use Rattle.decrees.specs.declared.node.Node.TheVariants as node
use Rattle.exec_lines.specs.declared.body.Body.{Body}
use Rattle.exec_lines.specs.declared.body.Body.TheVariants as body
use Rattle.exec_lines.specs.declared.input.Input.TheVariants as executor_input
use Rattle.verifier.specs.declared.input.Input.TheVariants as verifier_input
use Rattle.verifier.specs.Verifier.{VerifierView}
use Rattle.events.specs.Config.{ConfigView}
use Rattle.slots.specs.Slot.{Slot}
use Rattle.slots.specs.declared.slot.Slot.TheVariants.{Down}
use Rattle.slots.specs.Slots.{nothing_kept}
use Rattle.hosts.specs.Host.{HostView, HostTakes, HostSettles, HostReopens, HostCollects}
use Rattle.ensemble.specs.declared.answer.Answer.{Answer}
use Rattle.ensemble.specs.Nodes.{NodesView, AtHostIn, HostMoves, HostAdvances, AtVerifierIn, VerifierMoves, VerifierGets, VerifierOpens, VerifierTrims, VerifiersReached, ProxyReached, NodesReached, IsPosted, AsksAgain}
use Rattle.ensemble.specs.Kept.{down_host, down_verifier}
use Rattle.ensemble.specs.Calls.{VerifierCrashes}
use Rattle.ensemble.proofs.Lists.{set_twice}
use Rattle.site_laws.specs.Orders.{DoesAll}
use Rattle.site_laws.specs.Site.{Deed, RunsOnly, HostEnds, IsNodeOf, Does, unopened_nodes}
use Rattle.site_laws.specs.Site as deed
use Rattle.site_laws.specs.Lives.{MemberKept, nodes_with, begun_nodes}

-- the replicas of all other members were never opened
pub record OwnOnly (c : ConfigView) (m : ℕ) (n : NodesView) : Type 0 where
  pub same_u : n.u ≡ c.u
  pub host : HostView
  pub executors : n.executors ≡ slice_set (unopened_nodes c).executors m host
  pub slot : Slot VerifierView
  pub verifiers : n.verifiers ≡ slice_set (unopened_nodes c).verifiers m slot

-- ---- where processes begin

set_replicate : {X : Type 0} (n i : ℕ) (x : X) → slice_set (replicate n x) i x ≡ replicate n x
set_replicate zero i x = refl
set_replicate (suc n) zero x = refl
set_replicate {X} (suc n) (suc i) x = ap (λ (xs : List X). x ∷ xs) (set_replicate n i x)

own_unopened : (c : ConfigView) (m : ℕ) → OwnOnly c m (unopened_nodes c)
own_unopened c m =
    let host : HostView = record { slot = Down nothing_kept; held = []; sent = [] } in
    let slot : Slot VerifierView = Down nothing_kept in
    record {
      same_u = refl;
      host = host;
      executors = sym (set_replicate (member_count c.u) m host);
      slot = slot;
      verifiers = sym (set_replicate (member_count c.u) m slot);
    }

pub own_begun : (c : ConfigView) (m : ℕ) (found : Option MemberKept) → OwnOnly c m (begun_nodes c m found)
own_begun c m None = own_unopened c m
own_begun c m (Some kept) = record {
  same_u = refl;
  host = down_host kept.executor;
  executors = refl;
  slot = down_verifier kept.verifier;
  verifiers = refl;
}

module _ (home : ℕ → ℕ) (c : ConfigView) (m : ℕ) where
  -- ---- what one deed may do

  -- other letters, other proxies
  own_others : (n now : NodesView) → now.u ≡ n.u → now.executors ≡ n.executors → now.verifiers ≡ n.verifiers → OwnOnly c m n → OwnOnly c m now
  own_others n now us hosts slots o = record { same_u = us ∙ o.same_u; host = o.host; executors = hosts ∙ o.executors; slot = o.slot; verifiers = slots ∙ o.verifiers }

  own_same : (n now : NodesView) → now ≡ n → OwnOnly c m n → OwnOnly c m now
  own_same n now same o = subst (λ (x : NodesView). OwnOnly c m x) (sym same) o

  own_host : (DoesSo : HostView → HostView → List (Letter Body) → Type 0) (n now : NodesView) → HostMoves DoesSo m n now → OwnOnly c m n → OwnOnly c m now
  own_host DoesSo n now moves o = subst (λ (x : NodesView). OwnOnly c m x) (sym moves.5) (by (slice_get n.executors m) moves.3)
    where
      by : (at : Option HostView) → AtHostIn DoesSo m n.executors moves.0 moves.1 at → OwnOnly c m (record n { executors = moves.0; mail = moves.2 })
      by None did = record { same_u = o.same_u; host = o.host; executors = did.0 ∙ o.executors; slot = o.slot; verifiers = o.verifiers }
      by (Some h) did = record {
        same_u = o.same_u;
        host = did.0;
        executors = did.2 ∙ (ap (λ (hs : List HostView). slice_set hs m did.0) o.executors ∙ set_twice (unopened_nodes c).executors m o.host did.0);
        slot = o.slot;
        verifiers = o.verifiers;
      }

  own_verifier : (DoesSo : Slot VerifierView → Slot VerifierView → List (Letter Ballot) → Type 0) (n now : NodesView) → VerifierMoves DoesSo m n now → OwnOnly c m n → OwnOnly c m now
  own_verifier DoesSo n now moves o = subst (λ (x : NodesView). OwnOnly c m x) (sym moves.5) (by (slice_get n.verifiers m) moves.3)
    where
      by : (at : Option (Slot VerifierView)) → AtVerifierIn DoesSo m n.verifiers moves.0 moves.1 at → OwnOnly c m (record n { verifiers = moves.0; mail = moves.2 })
      by None did = record { same_u = o.same_u; host = o.host; executors = o.executors; slot = o.slot; verifiers = did.0 ∙ o.verifiers }
      by (Some v) did = record {
        same_u = o.same_u;
        host = o.host;
        executors = o.executors;
        slot = did.0;
        verifiers = did.2 ∙ (ap (λ (vs : List (Slot VerifierView)). slice_set vs m did.0) o.verifiers ∙ set_twice (unopened_nodes c).verifiers m o.slot did.0);
      }

  own_posted : (n now : NodesView) (client : ℕ) (r : Request) → IsPosted n client r now → OwnOnly c m n → OwnOnly c m now
  own_posted n now client r posted o = own_same (record n { mail = now.mail }) now posted.after (own_others n (record n { mail = now.mail }) refl refl refl o)

  own_again : (n now : NodesView) (number : ℕ) → AsksAgain n number now → OwnOnly c m n → OwnOnly c m now
  own_again n now number (inl asked) o = own_posted n now number asked.0 asked.2 o
  own_again n now number (inr same) o = own_same n now same o

  -- ---- a letter comes

  own_ballot : (n now : NodesView) (l : Letter Body) (id : ℕ) → id ≡ m → (b : Body) → VerifiersReached n l id b now → OwnOnly c m n → OwnOnly c m now
  own_ballot n now l id here (body.Ballot b) moves o =
      let Gets = VerifierGets (verifier_input.Letter (record { from = l.from; to = l.to; body = b })) in
      own_verifier Gets n now (subst (λ (k : ℕ). VerifierMoves Gets k n now) here moves) o
  own_ballot n now l id here (body.Want r) same o = own_same n now same o
  own_ballot n now l id here (body.Order r) same o = own_same n now same o
  own_ballot n now l id here (body.Reply number reply) same o = own_same n now same o
  own_ballot n now l id here (body.Need r) same o = own_same n now same o
  own_ballot n now l id here (body.Parcel r) same o = own_same n now same o

  own_proxy : (n now : NodesView) (client : ℕ) (answer : Option Answer) (b : Body) → ProxyReached n client b now answer → OwnOnly c m n → OwnOnly c m now
  own_proxy n now client answer (body.Reply number reply) r o = own_same (record n { proxies = r.0 }) now r.2 (own_others n (record n { proxies = r.0 }) refl refl refl o)
  own_proxy n now client answer (body.Want q) r o = own_same n now r.0 o
  own_proxy n now client answer (body.Order q) r o = own_same n now r.0 o
  own_proxy n now client answer (body.Need q) r o = own_same n now r.0 o
  own_proxy n now client answer (body.Parcel q) r o = own_same n now r.0 o
  own_proxy n now client answer (body.Ballot q) r o = own_same n now r.0 o

  own_reached : (n now : NodesView) (l : Letter Body) (answer : Option Answer) (to : Node) → IsNodeOf home m to → NodesReached n l to now answer → OwnOnly c m n → OwnOnly c m now
  own_reached n now l answer (node.Client client) here r o = own_proxy n now client answer l.body r o
  own_reached n now l answer (node.Executor id) here r o =
      own_host (λ h left sent. HostTakes h l left sent) n now (subst (λ (k : ℕ). HostMoves (λ h left sent. HostTakes h l left sent) k n now) here r.0) o
  own_reached n now l answer (node.Verifier id) here r o = own_ballot n now l id here l.body r.0 o

  -- ---- all deeds

  own_after : (n now : NodesView) (d : Deed) → Does home m n d now → OwnOnly c m n → OwnOnly c m now
  own_after n now (deed.Came l) did o = own_same (record n { mail = n.mail ++ l ∷ [] }) now did (own_others n (record n { mail = n.mail ++ l ∷ [] }) refl refl refl o)
  own_after n now (deed.Left l) did o = own_same n now did.1 o
  own_after n now (deed.Took l answer) (rest, among, inside, here, reached) o =
      own_reached (record n { mail = rest }) now l answer l.to here reached (own_others n (record n { mail = rest }) refl refl refl o)
  own_after n now (deed.Asked r quiet) (mid, here, text, by_proxy, is, posted) o =
      own_posted mid now r.client r posted (own_same (record n { proxies = mid.proxies }) mid is (own_others n (record n { proxies = mid.proxies }) refl refl refl o))
  own_after n now (deed.Again number) did o = own_again n now number did.1 o
  own_after n now (deed.CutAt moment) did o = own_host (λ h left sent. HostSettles h (executor_input.Cut moment) left sent) n now did o
  own_after n now deed.Advanced did o = own_host HostAdvances n now did o
  own_after n now deed.Ran did o = own_host RunsOnly n now did o
  own_after n now deed.Collected did o = own_host HostCollects n now did o
  own_after n now deed.OpenedExecutor did o = own_host (λ h left sent. HostReopens n.u m h left sent) n now did o
  own_after n now deed.OpenedVerifier did o = own_verifier (VerifierOpens n.u m) n now did o
  own_after n now deed.Suspected did o = own_verifier (VerifierGets verifier_input.Suspect) n now did o
  own_after n now deed.Trimmed did o = own_verifier VerifierTrims n now did o
  own_after n now deed.Forgot (rest, among, is) o = own_same (record n { mail = rest }) now is (own_others n (record n { mail = rest }) refl refl refl o)
  own_after n now deed.ExecutorEnded did o = own_host HostEnds n now did o
  own_after n now deed.VerifierEnded did o = own_verifier VerifierCrashes n now did o

  pub own_all : (n now : NodesView) (ds : List Deed) → DoesAll (Does home) m n ds now → OwnOnly c m n → OwnOnly c m now
  own_all n now [] same o = own_same n now same o
  own_all n now (d ∷ ds) all o = own_all all.0 now ds all.2 (own_after n all.0 d all.1 o)
