-- What always holds of a service, also of one whose process began with what another one left.
use Rattle.std.specs.Prelude.{◌≡◌, ◌++◌, ℕ, List, [], ◌∷◌, Option, None, Some}
use Rattle.grammar.specs.declared.reader.Dialect.{Dialect}
use Rattle.connections.specs.Connections.{ConnectionsView, no_connections_from, IsConnections}
use Rattle.connections.specs.History.{HistoryView, IsHistory}
use Rattle.ensemble.specs.Kept.{ProcessView, process_of, NoneIsLost}
use Rattle.ensemble.specs.Process.{reopened_ensemble, ensemble_after}
use Rattle.service.specs.declared.assignment.Assignment.{Assignment}
use Rattle.service.specs.declared.assignment.Outstanding.{Outstanding}
use Rattle.service.specs.declared.pause.Pause.{Pause}
use Rattle.service.specs.Owed.{Remembers}
use Rattle.service.specs.Service.{ReplicasView, ServiceView, Waits, IsService, HasMoments, HasEnsemble}

-- what passed the connections
abbrev pub passed_history : ConnectionsView → HistoryView
passed_history c = record { heard = c.heard; given = c.given; passed = c.passed }

-- What always holds of a service.
pub record IsWhole (v : ServiceView) : Type 0 where
  pub connections : IsConnections v.connections
  pub history : IsHistory (passed_history v.connections)
  pub moments : HasMoments v
  pub service : IsService v
  pub ensemble : HasEnsemble v
  pub remembers : Remembers v.queue v.waiting v.connections.table

-- What always holds of a service of itself alone: all but what holds of its replicas.
pub record IsServiceAlone (v : ServiceView) : Type 0 where
  pub connections : IsConnections v.connections
  pub history : IsHistory (passed_history v.connections)
  pub moments : HasMoments v
  pub service : IsService v
  pub remembers : Remembers v.queue v.waiting v.connections.table
  -- requests and replies are those of its replicas
  pub same_asked : v.replicas.ensemble.asked ≡ v.asked
  pub same_answered : v.replicas.ensemble.answered ≡ v.answered
  pub same_order : v.replicas.ensemble.order ≡ v.order

-- ---- what is kept

-- What is kept of a service: what is kept of its replicas and proxies, the grammar in which bytes are read, and the least number that the next connection may have.
pub record KeptService : Type 0 where
  pub replicas : ProcessView
  pub dialect : Dialect
  pub next : ℕ

-- what is kept if the process ends now
abbrev pub kept_service : ServiceView → KeptService
kept_service v = record { replicas = process_of v.replicas.ensemble.nodes; dialect = v.connections.dialect; next = v.connections.next }

-- what this process began with, if it began with what was kept of another one
abbrev pub found_as : Dialect → ℕ → Option ProcessView → Option KeptService
found_as dialect first None = None
found_as dialect first (Some p) = Some (record { replicas = p; dialect = dialect; next = first })

abbrev pub found_by : ServiceView → Option KeptService
found_by v = found_as v.connections.dialect v.connections.first v.replicas.ensemble.found

-- no replica is lost for good
abbrev pub HasAll : ServiceView → Type 0
HasAll v = NoneIsLost v.replicas.ensemble.nodes

-- ---- another process begins

-- nobody waits
abbrev pub NobodyWaits : List (Option Outstanding) → Type 0
NobodyWaits waiting = (a : Assignment) → Waits waiting a → ⊥

-- the service of a process that begins with this: nothing was asked of it, and it has these slots for what proxies wait for
abbrev pub reopened_service : KeptService → List (Option Outstanding) → List Pause → ServiceView
reopened_service kept waiting pauses = record {
  connections = no_connections_from kept.dialect kept.next;
  asked = [];
  answered = [];
  order = [];
  assignments = [];
  waiting = waiting;
  queue = [];
  replicas = record { ensemble = reopened_ensemble kept.replicas; refused = 0; pauses = pauses };
}

-- ---- processes one after the other

abbrev pub connections_after : ConnectionsView → ConnectionsView → ConnectionsView
connections_after before c = record {
  dialect = c.dialect;
  table = c.table;
  next = c.next;
  first = before.first;
  heard = before.heard ++ c.heard;
  given = before.given ++ c.given;
  passed = before.passed ++ c.passed;
  taken = before.taken ++ c.taken;
  replied = before.replied ++ c.replied;
}

abbrev pub replicas_after : ReplicasView → ReplicasView → ReplicasView
replicas_after before r = record { ensemble = ensemble_after before.ensemble r.ensemble; refused = r.refused; pauses = r.pauses }

-- all that was asked and given in the one before, and then in this one. Connections, and what proxies wait for, are those of this one
abbrev pub service_after : ServiceView → ServiceView → ServiceView
service_after before v = record {
  connections = connections_after before.connections v.connections;
  asked = before.asked ++ v.asked;
  answered = before.answered ++ v.answered;
  order = before.order ++ v.order;
  assignments = before.assignments ++ v.assignments;
  waiting = v.waiting;
  queue = v.queue;
  replicas = replicas_after before.replicas v.replicas;
}

-- This holds of a service with all that was asked and given before, if its process began with this: whatever service it was kept of, it holds of that one and this one as one service.
abbrev pub HoldsAfter : Option KeptService → (ServiceView → Type 0) → ServiceView → Type 0
HoldsAfter None Holds v = Holds v
HoldsAfter (Some found) Holds v = (before : ServiceView) → IsWhole before → HasAll before → kept_service before ≡ found → Holds (service_after before v)

-- What always holds of a service whose process began with this.
abbrev pub IsServiceAfter : Option KeptService → ServiceView → Type 0
IsServiceAfter found v = HoldsAfter found IsWhole v

-- what always holds of a service, whatever its process began with
abbrev pub IsProcess : ServiceView → Type 0
IsProcess v = IsServiceAfter (found_by v) v

-- processes one after the other, the first of which began with this: each later one began with what was kept of the one before it
abbrev pub AreSuccessive : Option KeptService → List ServiceView → Type 0
AreSuccessive found [] = Unit {0}
AreSuccessive found (v ∷ later) = IsServiceAfter found v × HasAll v × AreSuccessive (Some (kept_service v)) later

-- processes one after the other, the first of which began with this: each later one was opened again with what was kept of the one before it
abbrev pub AreReopened : Option KeptService → List ServiceView → Type 0
AreReopened found [] = Unit {0}
AreReopened found (v ∷ later) = IsProcess v × (found_by v ≡ found) × HasAll v × AreReopened (Some (kept_service v)) later

-- what the one after all of these was opened again with
abbrev pub next_found : Option KeptService → List ServiceView → Option KeptService
next_found found [] = found
next_found found (v ∷ later) = next_found (Some (kept_service v)) later

-- all that was asked and given in this one, and then in the later ones
abbrev pub services_after : ServiceView → List ServiceView → ServiceView
services_after v [] = v
services_after v (next ∷ later) = services_after (service_after v next) later

-- all that was asked and given in the earlier ones, and then in this one
abbrev pub services_with : List ServiceView → ServiceView → ServiceView
services_with [] v = v
services_with (first ∷ later) v = services_after first (later ++ v ∷ [])
