-- A replica that stops is an event, and leaves all else as it was.
use Rattle.std.proofs.Common.{◌≡◌, inr, ℕ, false, List, [], ◌++◌, map, Option, None, Some, slice_get, slice_set, refl, sym, ap, ◌∙◌, subst}
use Rattle.std.specs.Prelude.{is_some}
use Rattle.std.proofs.lemmas.List.{append-nil}
use Rattle.decrees.specs.declared.ballot.Ballot.{Ballot}
use Rattle.decrees.specs.declared.node.Letter.{Letter}
use Rattle.events.specs.declared.event.Replica.{Replica}
use Rattle.events.specs.declared.event.Replica.TheVariants as replica
use Rattle.exec_lines.specs.declared.body.Body.{Body}
use Rattle.exec_node.specs.Executor.{ExecutorView}
use Rattle.verifier.specs.Verifier.{VerifierView}
use Rattle.keeper.specs.Kept.{Kept}
use Rattle.slots.specs.Slot.{Slot}
use Rattle.slots.specs.declared.slot.Slot.TheVariants.{Up, Down, Gone}
use Rattle.slots.specs.Slots.{executor_kept, verifier_kept, crashed_slot}
use Rattle.worlds.specs.World.{WorldView, with_executor, with_verifier}
use Rattle.slots.specs.Sending.{as_sent}
use Rattle.slots.specs.Status.{node_at}
use Rattle.hosts.specs.Host.{HostView}
use Rattle.hosts.specs.Stops.{HostStops}
use Rattle.ensemble.specs.Nodes.{NodesView, AtHostIn, HostMoves, AtVerifierIn, VerifierMoves}
use Rattle.ensemble.specs.Shown.{is_host_up, is_slot_up, is_up_at}
use Rattle.ensemble.specs.Calls.{VerifierCrashes, IsStopped}
use Rattle.ensemble.specs.Ensemble.{EnsembleView, HasSent, IsEnsemble}
use Rattle.ensemble.proofs.Lists.{set_get}
use Rattle.ensemble.proofs.Goes.{Moves, ensemble_stays}
use Rattle.ensemble.proofs.Hosts as host
use Rattle.ensemble.proofs.Verifiers as verifier
use Rattle.ensemble.proofs.Collecting.{KeepsSent}
use Rattle.ensemble.proofs.Ending.{executor_crashes, verifier_crashes}

-- ---- the world goes on

host_stops : {cut : Option ℕ} → (w : WorldView) (id : ℕ) (h left : HostView) (sent : List (Letter Body)) → slice_get w.executors id ≡ Some h.slot → HasSent h id w.letters → HostStops h left sent → host.Acts cut w id left sent
host_stops {cut} w id h left sent at has did =
    let slot = crashed_slot executor_kept h.slot in
    let letters : w.letters ≡ w.letters ++ sent = sym (append-nil w.letters) ∙ ap (λ (ls : List (Letter Body)). w.letters ++ ls) (sym did.1) in
    let moves : Moves cut w (with_executor w id slot sent) =
    subst (λ (ls : List (Letter Body)). Moves cut w (record w { executors = slice_set w.executors id slot; letters = ls })) letters (executor_crashes w id h.slot at) in
    host.acts_settled w id h left slot sent has moves did.0

verifier_stops : {cut : Option ℕ} → (w : WorldView) (id : ℕ) (old left : Slot VerifierView) (sent : List (Letter Ballot)) → slice_get w.verifiers id ≡ Some old → VerifierCrashes old left sent → verifier.Acts cut w id left sent
verifier_stops {cut} w id old left sent at did =
    let slot = crashed_slot verifier_kept old in
    let now : record w { verifiers = slice_set w.verifiers id slot } ≡ with_verifier w id left sent =
    λ i. record w { verifiers = slice_set w.verifiers id (sym did.0 i); letters = (sym (append-nil w.letters) ∙ ap (λ (ls : List (Letter Ballot)). w.letters ++ map as_sent ls) (sym did.1)) i } in
    subst (Moves cut w) now (verifier_crashes w id old at)

module _ (e : EnsembleView) (n : NodesView) (h : IsEnsemble e) where
  pub stop_executor_goes : (id : ℕ) → HostMoves HostStops id e.nodes n → IsEnsemble (record e { nodes = n })
  stop_executor_goes id m = ensemble_stays e n h (host.host_goes HostStops e.nodes n h.now id h.like (host_stops h.now id) m)

  pub stop_verifier_goes : (id : ℕ) → VerifierMoves VerifierCrashes id e.nodes n → IsEnsemble (record e { nodes = n })
  stop_verifier_goes id m = ensemble_stays e n h (verifier.verifier_goes VerifierCrashes e.nodes n h.now id h.like (verifier_stops h.now id) m)

-- ---- what a call says that stops one

pub stops_keeps : KeepsSent HostStops
stops_keeps h left sent did = ap (λ (v : HostView). v.sent) did.0

pub executor_moves : (id : ℕ) (n now : NodesView) → IsStopped (replica.Executor id) n now → HostMoves HostStops id n now
executor_moves id n now s = (s.0, [], n.mail, s.1, inr refl, s.2)

pub verifier_moves : (id : ℕ) (n now : NodesView) → IsStopped (replica.Verifier id) n now → VerifierMoves VerifierCrashes id n now
verifier_moves id n now s = (s.0, [], n.mail, s.1, inr refl, s.2)

crashed_is_down : {N : Type 0} (keeps : N → Kept) (slot : Slot N) → node_at (crashed_slot keeps slot) ≡ None
crashed_is_down keeps (Up n) = refl
crashed_is_down keeps (Down kept) = refl
crashed_is_down keeps (Gone kept) = refl

-- it is not up then
pub stopped_is_down : (r : Replica) (n now : NodesView) → IsStopped r n now → is_up_at now r ≡ false
stopped_is_down (replica.Executor id) n now s = ap (λ (v : NodesView). is_up_at v (replica.Executor id)) s.2 ∙ by (slice_get n.executors id) refl s.1
  where
    by : (o : Option HostView) → slice_get n.executors id ≡ o → AtHostIn HostStops id n.executors s.0 [] o → is_host_up (slice_get s.0 id) ≡ false
    by None at did = ap (λ (hs : List HostView). is_host_up (slice_get hs id)) did.0 ∙ ap is_host_up at
    by (Some h) at did =
        ap (λ (hs : List HostView). is_host_up (slice_get hs id)) did.2
        ∙ (ap is_host_up (set_get n.executors id h did.0 at)
        ∙ (ap (λ (x : HostView). is_host_up (Some x)) did.1.0 ∙ ap is_some (crashed_is_down executor_kept h.slot)))
stopped_is_down (replica.Verifier id) n now s = ap (λ (v : NodesView). is_up_at v (replica.Verifier id)) s.2 ∙ by (slice_get n.verifiers id) refl s.1
  where
    by : (o : Option (Slot VerifierView)) → slice_get n.verifiers id ≡ o → AtVerifierIn VerifierCrashes id n.verifiers s.0 [] o → is_slot_up (slice_get s.0 id) ≡ false
    by None at did = ap (λ (vs : List (Slot VerifierView)). is_slot_up (slice_get vs id)) did.0 ∙ ap is_slot_up at
    by (Some v) at did =
        ap (λ (vs : List (Slot VerifierView)). is_slot_up (slice_get vs id)) did.2
        ∙ (ap is_slot_up (set_get n.verifiers id v did.0 at)
        ∙ (ap (λ (x : Slot VerifierView). is_slot_up (Some x)) did.1.0 ∙ ap is_some (crashed_is_down verifier_kept v)))
