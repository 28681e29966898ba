-- A process of a service that ends, and others that begin with what was kept.
use Rattle.std.proofs.Common.{◌≡◌, ℕ, List, [], ◌∷◌, ◌++◌, Option, None, Some, refl, sym, ap, ◌∙◌, subst}
use Rattle.std.proofs.lemmas.List.{append-nil}
use Rattle.connections.specs.Connection.{ConnectionView}
use Rattle.connections.specs.Connections.{ConnectionsView, IsConnections}
use Rattle.connections.specs.Slots.{slot_in}
use Rattle.ensemble.specs.Ensemble.{EnsembleView, IsEnsemble}
use Rattle.ensemble.specs.Kept.{ProcessView, process_of}
use Rattle.ensemble.specs.Process.{reopened_ensemble, ensemble_after, IsEnsembleAfter}
use Rattle.service.specs.declared.assignment.Assignment.{Assignment}
use Rattle.service.specs.declared.assignment.Outstanding.{Outstanding}
use Rattle.service.specs.declared.pause.Pause.{Pause}
use Rattle.service.specs.Service.{ServiceView, IsAssigned, IsService, HasEnsemble}
use Rattle.service.specs.Process.{IsWhole, IsServiceAlone, KeptService, kept_service, found_as, found_by, HasAll, NobodyWaits, reopened_service, service_after, HoldsAfter, IsServiceAfter, IsProcess, AreSuccessive, AreReopened, next_found, services_after, services_with}
use Rattle.service.proofs.Joining.{joined_whole}

-- a law of `ensemble`
abbrev pub EnsembleFollows : Type 0
EnsembleFollows = (found : ProcessView) → IsEnsembleAfter (Some found) (reopened_ensemble found)

nobody : (key : ℕ) (c : ConnectionView) → slot_in [] key ≡ Some c → ⊥
nobody key c at = cc at

-- the connections of the process before are gone
no_connection_left : (v : ConnectionsView) → IsConnections v → IsConnections (record v { table = [] })
no_connection_left v h = record {
  here = λ key c at. absurd (nobody key c at);
  one_key = λ i j c d at_i at_j same. absurd (nobody i c at_i);
  answered = h.answered;
  fresh = h.fresh;
  asked = h.asked;
  below = h.below;
  least = h.least;
  none_before = h.none_before;
  since = h.since;
  once = h.once;
}

-- the service of another process, with all that was asked and given before
abbrev ended : ServiceView → List (Option Outstanding) → List Pause → ServiceView
ended v waiting pauses = record v {
  connections = record v.connections { table = [] };
  waiting = waiting;
  queue = [];
  replicas = record { ensemble = ensemble_after v.replicas.ensemble (reopened_ensemble (process_of v.replicas.ensemble.nodes)); refused = 0; pauses = pauses };
}

module _ (v : ServiceView) (waiting : List (Option Outstanding)) (pauses : List Pause) where
  still_assigned : (a : Assignment) → IsAssigned v a → IsAssigned (ended v waiting pauses) a
  still_assigned a x = record {
    command = x.command;
    taken = x.taken;
    request = x.request;
    quiet = x.quiet;
    asked = x.asked;
    of_proxy = x.of_proxy;
    numbered = x.numbered;
    same = x.same;
  }

  still_service : NobodyWaits waiting → IsService v → IsService (ended v waiting pauses)
  still_service none h = record {
    each = λ a c. still_assigned a (h.each a c);
    none_else = h.none_else;
    in_order = h.in_order;
    once = h.once;
    replied = h.replied;
    ordered = h.ordered;
    in_turn = h.in_turn;
    waits = λ a w. absurd (none a w);
    in_own_slot = λ i a w. absurd (none a (i, w.0, w.1, w.2));
    unreplied = λ a w. absurd (none a w);
  }

  still_world : EnsembleFollows → HasAll v → HasEnsemble v → HasEnsemble (ended v waiting pauses)
  still_world follows all h =
      let old : EnsembleView = v.replicas.ensemble in
      let was : IsEnsemble old = subst (λ (e : EnsembleView). IsEnsemble e) h.these h.world in
      record {
        ensemble = ensemble_after old (reopened_ensemble (process_of old.nodes));
        these = refl;
        world = follows (process_of old.nodes) old was all refl;
        same_asked = append-nil old.asked ∙ (sym (ap (λ (e : EnsembleView). e.asked) h.these) ∙ h.same_asked);
        same_answered = append-nil old.answered ∙ (sym (ap (λ (e : EnsembleView). e.answered) h.these) ∙ h.same_answered);
        same_order = append-nil old.order ∙ (sym (ap (λ (e : EnsembleView). e.order) h.these) ∙ h.same_order);
      }

  still_whole : EnsembleFollows → NobodyWaits waiting → HasAll v → IsWhole v → IsWhole (ended v waiting pauses)
  still_whole follows none all h = record {
    connections = no_connection_left v.connections h.connections;
    history = h.history;
    moments = h.moments;
    service = still_service none h.service;
    ensemble = still_world follows all h.ensemble;
    remembers = λ key c at. absurd (nobody key c at);
  }

-- what another process begins with follows each service of which it was kept
pub begins_after : EnsembleFollows → (found : KeptService) (waiting : List (Option Outstanding)) (pauses : List Pause) → NobodyWaits waiting → IsServiceAfter (Some found) (reopened_service found waiting pauses)
begins_after follows found waiting pauses none before h all is =
    let whole = still_whole before waiting pauses follows none all h in
    let same : ended before waiting pauses ≡ service_after before (reopened_service (kept_service before) waiting pauses) = λ i. record {
      connections = record {
        dialect = before.connections.dialect;
        table = [];
        next = before.connections.next;
        first = before.connections.first;
        heard = sym (append-nil before.connections.heard) i;
        given = sym (append-nil before.connections.given) i;
        passed = sym (append-nil before.connections.passed) i;
        taken = sym (append-nil before.connections.taken) i;
        replied = sym (append-nil before.connections.replied) i;
      };
      asked = sym (append-nil before.asked) i;
      answered = sym (append-nil before.answered) i;
      order = sym (append-nil before.order) i;
      assignments = sym (append-nil before.assignments) i;
      waiting = waiting;
      queue = [];
      replicas = record { ensemble = ensemble_after before.replicas.ensemble (reopened_ensemble (process_of before.replicas.ensemble.nodes)); refused = 0; pauses = pauses };
    } in
    subst (λ (k : KeptService). IsWhole (service_after before (reopened_service k waiting pauses))) is (subst (λ (x : ServiceView). IsWhole x) same whole)

-- what holds of all that was asked and given, also before, if another thing does
pub holds_after : (found : Option KeptService) (P Q : ServiceView → Type 0) (v : ServiceView) → ((x : ServiceView) → P x → Q x) → HoldsAfter found P v → HoldsAfter found Q v
holds_after None P Q v may h = may v h
holds_after (Some found) P Q v may h = λ before was all is. may (service_after before v) (h before was all is)

-- a service of which all that was asked and given before is known holds what it always holds
whole_ensemble : (v : ServiceView) → IsWhole v → IsEnsemble v.replicas.ensemble
whole_ensemble v h = subst (λ (e : EnsembleView). IsEnsemble e) h.ensemble.these h.ensemble.world

after_found : (v : ServiceView) (found : Option ProcessView) → IsServiceAlone v → IsEnsembleAfter found v.replicas.ensemble → IsServiceAfter (found_as v.connections.dialect v.connections.first found) v
after_found v None own world = record {
  connections = own.connections;
  history = own.history;
  moments = own.moments;
  service = own.service;
  ensemble = record { ensemble = v.replicas.ensemble; these = refl; world = world; same_asked = own.same_asked; same_answered = own.same_answered; same_order = own.same_order };
  remembers = own.remembers;
}
after_found v (Some found) own world = λ before was all is.
    let dialect : v.connections.dialect ≡ before.connections.dialect = sym (ap (λ (k : KeptService). k.dialect) is) in
    let from : v.connections.first ≡ before.connections.next = sym (ap (λ (k : KeptService). k.next) is) in
    joined_whole before v was own dialect from (world before.replicas.ensemble (whole_ensemble before was) all (ap (λ (k : KeptService). k.replicas) is))

pub own_after : (v : ServiceView) → IsServiceAlone v → IsEnsembleAfter v.replicas.ensemble.found v.replicas.ensemble → IsProcess v
own_after v own world = after_found v v.replicas.ensemble.found own world

-- what always holds of a service holds of processes one after the other
pub all_whole : (v : ServiceView) (later : List ServiceView) → IsWhole v → HasAll v → AreSuccessive (Some (kept_service v)) later → IsWhole (services_after v later)
all_whole v [] h all follow = h
all_whole v (next ∷ later) h all follow = all_whole (service_after v next) later (follow.0 v h all refl) follow.1 follow.2

-- each was opened again with what was kept of the one before it, and so is this one
behind_all : (x : ServiceView) (later : List ServiceView) (v : ServiceView) → IsWhole x → HasAll x → AreReopened (Some (kept_service x)) later → IsProcess v → found_by v ≡ next_found (Some (kept_service x)) later → IsWhole (services_after x (later ++ v ∷ []))
behind_all x [] v h all are is found = subst (λ (k : Option KeptService). IsServiceAfter k v) found is x h all refl
behind_all x (y ∷ later) v h all are is found =
    let next : IsWhole (service_after x y) = subst (λ (k : Option KeptService). IsServiceAfter k y) are.1 are.0 x h all refl in
    behind_all (service_after x y) later v next are.2 are.3 is found

pub last_whole : (earlier : List ServiceView) (v : ServiceView) → AreReopened None earlier → IsProcess v → found_by v ≡ next_found None earlier → IsWhole (services_with earlier v)
last_whole [] v are is found = subst (λ (k : Option KeptService). IsServiceAfter k v) found is
last_whole (x ∷ later) v are is found = behind_all x later v (subst (λ (k : Option KeptService). IsServiceAfter k x) are.1 are.0) are.2 are.3 is found
