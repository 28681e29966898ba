-- An ensemble in which no replica was opened yet.
use Rattle.std.proofs.Common.{◌≡◌, inl, inr, ℕ, zero, suc, List, [], ◌∷◌, map, Option, None, Some, slice_get, refl, sym, ap, ◌∙◌, subst, arith}
use Rattle.std.specs.Prelude.{Contains, replicate}
use Rattle.std.proofs.lemmas.List.{append-nil}
use Rattle.decrees.specs.Count.{member_count}
use Rattle.decrees.specs.declared.node.Letter.{Letter}
use Rattle.exec_lines.specs.declared.body.Body.{Body}
use Rattle.exec_node.specs.Executor.{ExecutorView}
use Rattle.verifier.specs.Verifier.{VerifierView}
use Rattle.events.specs.declared.event.Event.TheVariants.{Cut, Restart}
use Rattle.events.specs.declared.event.Replica.{Replica}
use Rattle.events.specs.declared.event.Replica.TheVariants.{Executor, Verifier}
use Rattle.events.specs.Config.{ConfigView}
use Rattle.slots.specs.Slot.{Slot}
use Rattle.slots.specs.declared.slot.Slot.TheVariants.{Down}
use Rattle.slots.specs.Slots.{StopsIn, nothing_kept}
use Rattle.worlds.specs.World.{WorldView, WorldNext, ExecutorAtOpened, VerifierAtOpened, unopened_world, restarts_below, IsReached}
use Rattle.worlds.proofs.LeadLemmas.{LeadsTo, leads_nowhere, leads_append, leads_on}
use Rattle.hosts.specs.Host.{HostView}
use Rattle.ensemble.specs.declared.noted.Noted.TheVariants as noted
use Rattle.ensemble.specs.Ensemble.{IsPast, IsEnsemble}
use Rattle.ensemble.proofs.Lists.{set_same, in_none}
use Rattle.ensemble.proofs.Past.{past_now}
use Rattle.ensemble.proofs.Moments.{Order, no_cut}
use Rattle.ensemble.proofs.First.{nothing_next, same_clients, count_of, of_proxies, no_event, begins_empty}
use Rattle.site_laws.specs.Site.{unopened_nodes}

get_replicate : {X : Type 0} (n i : ℕ) (x y : X) → slice_get (replicate n x) i ≡ Some y → y ≡ x
get_replicate zero i x y at = absurd (cc at)
get_replicate (suc n) zero x y at = (let here : x ≡ y = cc at in sym here)
get_replicate (suc n) (suc i) x y at = get_replicate n i x y at

map_replicate : {X Y : Type 0} (f : X → Y) (n : ℕ) (x : X) → map f (replicate n x) ≡ replicate n (f x)
map_replicate f zero x = refl
map_replicate {X} {Y} f (suc n) x = ap (λ (ys : List Y). f x ∷ ys) (map_replicate f n x)

-- a replica whose opening fails stays as it is
stays_down : (after : Option (List ℕ)) → StopsIn nothing_kept after nothing_kept
stays_down after = record { record_is = inl refl; failures = record { counted = omega arith; untried = λ same. refl; spent = λ less. absurd (omega (arith, less)) } }

executor_stays : (c : ConfigView) (i : ℕ) → WorldNext (unopened_world c) (Restart (Executor i)) (unopened_world c)
executor_stays c i = by (slice_get (unopened_world c).executors i) refl
  where
    by : (o : Option (Slot ExecutorView)) → slice_get (unopened_world c).executors i ≡ o → ExecutorAtOpened (unopened_world c) i o (unopened_world c)
    by None at = refl
    by (Some old) at =
        let w = unopened_world c in
        let is : old ≡ Down nothing_kept = get_replicate (member_count c.u) i (Down nothing_kept) old at in
        subst (λ (x : Slot ExecutorView). ExecutorAtOpened w i (Some x) w) (sym is)
        (Down nothing_kept, [], inr (nothing_kept, refl, refl, stays_down _), λ j. record w { executors = sym (set_same w.executors i (Down nothing_kept) (at ∙ ap Some is)) j; letters = sym (append-nil w.letters) j })

verifier_stays : (c : ConfigView) (i : ℕ) → WorldNext (unopened_world c) (Restart (Verifier i)) (unopened_world c)
verifier_stays c i = by (slice_get (unopened_world c).verifiers i) refl
  where
    by : (o : Option (Slot VerifierView)) → slice_get (unopened_world c).verifiers i ≡ o → VerifierAtOpened (unopened_world c) i o (unopened_world c)
    by None at = refl
    by (Some old) at =
        let w = unopened_world c in
        let is : old ≡ Down nothing_kept = get_replicate (member_count c.u) i (Down nothing_kept) old at in
        subst (λ (x : Slot VerifierView). VerifierAtOpened w i (Some x) w) (sym is)
        (Down nothing_kept, [], inr (nothing_kept, refl, refl, stays_down _), λ j. record w { verifiers = sym (set_same w.verifiers i (Down nothing_kept) (at ∙ ap Some is)) j; letters = sym (append-nil w.letters) j })

opens_none : (w : WorldView) (replica : ℕ → Replica) → ((i : ℕ) → WorldNext w (Restart (replica i)) w) → (n : ℕ) → LeadsTo w (restarts_below replica n) w
opens_none w replica stays zero = leads_nowhere w
opens_none w replica stays (suc n) = leads_on w w w (restarts_below replica n) (Restart (replica n)) (opens_none w replica stays n) (stays n)

unopened_is_reached : (c : ConfigView) → IsReached c [] (unopened_world c)
unopened_is_reached c = record {
  worlds = unopened_world c ∷ [];
  reached = (
    leads_append (unopened_world c) (unopened_world c) (unopened_world c) (restarts_below Executor (member_count c.u)) (restarts_below Verifier (member_count c.u))
        (opens_none (unopened_world c) Executor (executor_stays c) (member_count c.u))
        (opens_none (unopened_world c) Verifier (verifier_stays c) (member_count c.u)),
    tt,
  );
  ends = refl;
}

of_hosts : (n id : ℕ) (h : HostView) → slice_get (replicate n (record { slot = Down nothing_kept; held = []; sent = [] })) id ≡ Some h → (h.held ≡ []) × (h.sent ≡ [])
of_hosts n id h at =
    let none : HostView = record { slot = Down nothing_kept; held = []; sent = [] } in
    let is : h ≡ none = get_replicate n id none h at in
    (ap (λ (x : HostView). x.held) is, ap (λ (x : HostView). x.sent) is)

pub unopened_is_ensemble : (c : ConfigView) → IsEnsemble (record { nodes = unopened_nodes c; asked = []; answered = []; order = []; refused = 0; found = None })
unopened_is_ensemble c = record {
  config = c;
  events = [];
  now = unopened_world c;
  same_u = refl;
  clients = sym (count_of c.clients);
  through = unopened_is_reached c;
  like = record {
    same_u = refl;
    executors = sym (map_replicate (λ (h : HostView). h.slot) (member_count c.u) (record { slot = Down nothing_kept; held = []; sent = [] }));
    verifiers = refl;
    clients = same_clients c.u c.clients;
    mail = λ l x. absurd (in_none l x);
    hosts = λ id h at. let none = of_hosts (member_count c.u) id h at in record {
      held = λ l x. absurd (in_none l (subst (λ (ls : List (Letter Body)). Contains ls l) none.0 x));
      sent = λ l x. absurd (in_none l (subst (λ (ls : List (Letter Body)). Contains ls l) none.1 x));
    };
  };
  numbered = λ i p at. of_proxies c.clients i p at;
  in_order = λ client k a at. absurd (cc at);
  fed = λ client. (nothing_next, refl);
  answers = λ a x. absurd (in_none a x);
  ordered_asks = λ a x. absurd (in_none a x);
  ordered_answers = λ client number x. absurd (in_none ((client, number), noted.Answered) x);
  cuts = λ before after executor moment is. absurd (no_event before (Cut executor moment) after is);
  past = λ early late is. subst (λ (o : Order). IsPast [] (unopened_is_reached c).worlds o) (begins_empty early late is)
      (past_now c [] (unopened_world c) (unopened_is_reached c) [] [] [] (λ client k a at. absurd (cc at)) (λ client. (nothing_next, refl)) (λ a x. absurd (in_none a x)) (λ client number x. absurd (in_none ((client, number), noted.Answered) x)) (λ a x. absurd (in_none a x)) (λ moment x. no_cut moment x));
}
