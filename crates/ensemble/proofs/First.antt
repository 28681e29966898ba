-- What is true of an ensemble whose replicas were just opened.
use Rattle.std.proofs.Common.{◌≡◌, ⊎_elim, ℕ, zero, suc, ◌+◌, ◌<◌, true, List, [], ◌∷◌, ◌++◌, length, map, None, Some, slice_get, refl, sym, ap, ◌∙◌, subst, arith}
use Rattle.std.specs.Prelude.{Contains}
use Rattle.std.proofs.lemmas.List.{length-append}
use Rattle.std.proofs.Math.Numerals.{add-one}
use Rattle.proto.specs.Grammar.{next_turn}
use Rattle.decrees.specs.Count.{member_count}
use Rattle.decrees.specs.declared.node.Letter.{Letter}
use Rattle.exec_lines.specs.declared.body.Body.{Body}
use Rattle.exec_node.specs.Executor.{ExecutorView}
use Rattle.client.specs.Client.{ClientView}
use Rattle.events.specs.Config.{ConfigView}
use Rattle.events.specs.declared.event.Event.{Event}
use Rattle.events.specs.declared.event.Event.TheVariants.{Cut}
use Rattle.slots.specs.Slot.{Slot}
use Rattle.slots.specs.declared.slot.Slot.TheVariants.{Up}
use Rattle.worlds.specs.Clients.{ClientSlot}
use Rattle.worlds.specs.World.{new_clients}
use Rattle.worlds.specs.First.{first_executor, first_verifier, all_up, first_world}
use Rattle.worlds.proofs.FirstLemmas.{reached_first, get_seam, length_all_up}
use Rattle.proxies.specs.Proxy.{ProxyView}
use Rattle.hosts.specs.Host.{HostView}
use Rattle.ensemble.specs.Nodes.{AreNumbered}
use Rattle.ensemble.specs.Calls.{AllCollected}
use Rattle.ensemble.specs.First.{first_proxies_of, first_host, first_hosts, first_nodes, AreAllUp}
use Rattle.ensemble.specs.Shown.{is_host_up, is_slot_up}
use Rattle.ensemble.specs.Ensemble.{IsPast, IsEnsemble, client_of}
use Rattle.ensemble.proofs.Lists.{in_none}
use Rattle.ensemble.specs.declared.noted.Noted.TheVariants as noted
use Rattle.ensemble.proofs.Moments.{Order, no_cut}
use Rattle.ensemble.proofs.Past.{past_now, get_longer}
use Rattle.ensemble.proofs.Asks.{at_end}
use Rattle.ensemble.proofs.Sending.{below_or_last}

abbrev slot_of : HostView → Slot ExecutorView
slot_of h = h.slot

abbrev client_in : ClientSlot → ClientView
client_in slot = slot.client

pub nothing_next : next_turn [] ≡ None
unfolding next_turn
nothing_next = refl

map_snoc : {A B : Type 0} (f : A → B) (xs : List A) (x : A) → map f (xs ++ x ∷ []) ≡ map f xs ++ f x ∷ []
map_snoc f [] x = refl
map_snoc {A} {B} f (y ∷ xs) x = ap (λ (ys : List B). f y ∷ ys) (map_snoc f xs x)

same_executors : (u n : ℕ) → all_up (first_executor u) n ≡ map slot_of (first_hosts u n)
same_executors u zero = refl
same_executors u (suc n) = ap (λ (xs : List (Slot ExecutorView)). xs ++ Up (first_executor u n) ∷ []) (same_executors u n) ∙ sym (map_snoc slot_of (first_hosts u n) (first_host u n))

pub same_clients : (u n : ℕ) → map client_in (new_clients u n) ≡ map (client_of u) (first_proxies_of n)
same_clients u zero = refl
same_clients u (suc n) =
    let p : ProxyView = record { client = suc n; last = 0; asked = None } in
    map_snoc client_in (new_clients u n) (record { client = client_of u p; given = [] })
    ∙ (ap (λ (xs : List ClientView). xs ++ client_of u p ∷ []) (same_clients u n) ∙ sym (map_snoc (client_of u) (first_proxies_of n) p))

pub count_of : (n : ℕ) → length (first_proxies_of n) ≡ n
count_of zero = refl
count_of (suc n) = length-append (first_proxies_of n) (record { client = suc n; last = 0; asked = None } ∷ []) ∙ (ap (λ (k : ℕ). k + 1) (count_of n) ∙ add-one n)

pub of_proxies : (n i : ℕ) (p : ProxyView) → slice_get (first_proxies_of n) i ≡ Some p → (p.client ≡ suc i) × (p.last ≡ 0)
of_proxies zero i p at = absurd (cc at)
of_proxies (suc n) i p at =
    let new : ProxyView = record { client = suc n; last = 0; asked = None } in
    ⊎_elim
    (λ (old : slice_get (first_proxies_of n) i ≡ Some p). of_proxies n i p old)
    (λ (last : (i ≡ length (first_proxies_of n)) × (p ≡ new)). (ap (λ (q : ProxyView). q.client) last.1 ∙ ap suc (sym (last.0 ∙ count_of n)), ap (λ (q : ProxyView). q.last) last.1))
    (at_end (first_proxies_of n) new p i at)

of_hosts : (u n id : ℕ) (h : HostView) → slice_get (first_hosts u n) id ≡ Some h → (h.held ≡ []) × (h.sent ≡ [])
of_hosts u zero id h at = absurd (cc at)
of_hosts u (suc n) id h at = ⊎_elim
    (λ (old : slice_get (first_hosts u n) id ≡ Some h). of_hosts u n id h old)
    (λ (last : (id ≡ length (first_hosts u n)) × (h ≡ first_host u n)). (ap (λ (k : HostView). k.held) last.1, ap (λ (k : HostView). k.sent) last.1))
    (at_end (first_hosts u n) (first_host u n) h id at)

pub no_event : (before : List Event) (e : Event) (after : List Event) → [] ≡ before ++ e ∷ after → ⊥
no_event [] e after is = cc is
no_event (x ∷ before) e after is = cc is

pub begins_empty : (early late : Order) → [] ≡ early ++ late → [] ≡ early
begins_empty [] late is = refl
begins_empty (x ∷ early) late is = absurd (cc is)

pub first_is_ensemble : (c : ConfigView) → IsEnsemble (record { nodes = first_nodes c; asked = []; answered = []; order = []; refused = 0; found = None })
first_is_ensemble c = record {
  config = c;
  events = [];
  now = first_world c;
  same_u = refl;
  clients = sym (count_of c.clients);
  through = reached_first c (first_world c) refl;
  like = record {
    same_u = refl;
    executors = same_executors c.u (member_count c.u);
    verifiers = refl;
    clients = same_clients c.u c.clients;
    mail = λ l x. absurd (in_none l x);
    hosts = λ id h at. let none = of_hosts c.u (member_count c.u) id h at in record {
      held = λ l x. absurd (in_none l (subst (λ (ls : List (Letter Body)). Contains ls l) none.0 x));
      sent = λ l x. absurd (in_none l (subst (λ (ls : List (Letter Body)). Contains ls l) none.1 x));
    };
  };
  numbered = λ i p at. of_proxies c.clients i p at;
  in_order = λ client k a at. absurd (cc at);
  fed = λ client. (nothing_next, refl);
  answers = λ a x. absurd (in_none a x);
  ordered_asks = λ a x. absurd (in_none a x);
  ordered_answers = λ client number x. absurd (in_none ((client, number), noted.Answered) x);
  cuts = λ before after executor moment is. absurd (no_event before (Cut executor moment) after is);
  past = λ early late is. subst (λ (o : Order). IsPast [] (reached_first c (first_world c) refl).worlds o) (begins_empty early late is)
      (past_now c [] (first_world c) (reached_first c (first_world c) refl) [] [] [] (λ client k a at. absurd (cc at)) (λ client. (nothing_next, refl)) (λ a x. absurd (in_none a x)) (λ client number x. absurd (in_none ((client, number), noted.Answered) x)) (λ a x. absurd (in_none a x)) (λ moment x. no_cut moment x));
}

pub first_numbered : (n : ℕ) → AreNumbered (first_proxies_of n)
first_numbered n i p at = (of_proxies n i p at).0

-- ---- all are up

count_hosts : (u n : ℕ) → length (first_hosts u n) ≡ n
count_hosts u zero = refl
count_hosts u (suc n) = length-append (first_hosts u n) (first_host u n ∷ []) ∙ (ap (λ (k : ℕ). k + 1) (count_hosts u n) ∙ add-one n)

host_at : (u n id : ℕ) → id < n → slice_get (first_hosts u n) id ≡ Some (first_host u id)
host_at u zero id lt = absurd (omega (arith, lt))
host_at u (suc n) id lt = ⊎_elim
    (λ (less : id < n). get_longer (first_hosts u n) (first_host u n ∷ []) id (first_host u id) (host_at u n id less))
    (λ (last : id ≡ n). (λ i. slice_get (first_hosts u n ++ first_host u n ∷ []) ((last ∙ sym (count_hosts u n)) i)) ∙ (get_seam (first_hosts u n) (first_host u n) [] ∙ (λ i. Some (first_host u (sym last i)))))
    (below_or_last id n (omega (arith, lt)))

up_at : {N : Type 0} (node : ℕ → N) (n id : ℕ) → id < n → slice_get (all_up node n) id ≡ Some (Up (node id))
up_at node zero id lt = absurd (omega (arith, lt))
up_at node (suc n) id lt = ⊎_elim
    (λ (less : id < n). get_longer (all_up node n) (Up (node n) ∷ []) id (Up (node id)) (up_at node n id less))
    (λ (last : id ≡ n). (λ i. slice_get (all_up node n ++ Up (node n) ∷ []) ((last ∙ sym (length_all_up node n)) i)) ∙ (get_seam (all_up node n) (Up (node n)) [] ∙ (λ i. Some (Up (node (sym last i))))))
    (below_or_last id n (omega (arith, lt)))

pub first_waits : (c : ConfigView) → AllCollected (first_nodes c)
first_waits c id h lt at = (of_hosts c.u (member_count c.u) id h at).1

pub first_are_up : (c : ConfigView) → AreAllUp c.u c.clients (first_nodes c)
first_are_up c = record {
  size = λ i. (c.u, count_of c.clients i, count_hosts c.u (member_count c.u) i, length_all_up (first_verifier c.u) (member_count c.u) i);
  executors = λ id lt. ap is_host_up (host_at c.u (member_count c.u) id lt);
  verifiers = λ id lt. ap is_slot_up (up_at (first_verifier c.u) (member_count c.u) id lt);
}
