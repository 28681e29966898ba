-- What is kept of a process when it ends, and the nodes with which another process begins.
use Rattle.std.specs.Prelude.{◌≡◌, ℕ, Bool, false, List, [], map, Option, Some, Contains, refl}
use Rattle.std.specs.Coded.{Coded, code_by, coded×, coded_ℕ, coded_bool, coded_list, coded_option}
use Rattle.keeper.specs.Kept.{Kept}
use Rattle.verifier.specs.Verifier.{VerifierView}
use Rattle.slots.specs.Slot.{Slot}
use Rattle.slots.specs.declared.slot.Slot.TheVariants.{Down}
use Rattle.slots.specs.Slots.{executor_kept, verifier_kept}
use Rattle.slots.specs.Status.{kept_at, is_gone}
use Rattle.proxies.specs.Proxy.{ProxyView}
use Rattle.hosts.specs.Host.{HostView}
use Rattle.ensemble.specs.Nodes.{NodesView}

-- ---- what is kept

-- What is kept of a process: what the keeper of each replica has, and what each proxy asked last.
pub record ProcessView : Type 0 where
  pub u : ℕ
  pub proxies : List ProxyView
  pub executors : List Kept
  pub verifiers : List Kept

abbrev kept_code : Coded Kept
kept_code =
    code_by ((Option (List ℕ) × ℕ) × Bool) (coded× (coded× (coded_option (coded_list coded_ℕ)) coded_ℕ) coded_bool)
    (λ k. ((k.saved, k.failures), k.fails_next))
    (λ p. record { saved = p.0.0; failures = p.0.1; fails_next = p.1 })
    (λ _. refl)

-- it is identified by what it has
abbrev pub process_code : Coded ProxyView → Coded ProcessView
process_code proxy =
    code_by (((ℕ × List ProxyView) × List Kept) × List Kept)
    (coded× (coded× (coded× coded_ℕ (coded_list proxy)) (coded_list kept_code)) (coded_list kept_code))
    (λ p. (((p.u, p.proxies), p.executors), p.verifiers))
    (λ q. record { u = q.0.0.0; proxies = q.0.0.1; executors = q.0.1; verifiers = q.1 })
    (λ _. refl)

abbrev pub kept_of_host : HostView → Kept
kept_of_host h = kept_at executor_kept h.slot

abbrev pub kept_of_verifier : Slot VerifierView → Kept
kept_of_verifier v = kept_at verifier_kept v

-- what is kept if the process ends now
abbrev pub process_of : NodesView → ProcessView
process_of n = record { u = n.u; proxies = n.proxies; executors = map kept_of_host n.executors; verifiers = map kept_of_verifier n.verifiers }

-- no replica is lost for good
pub record NoneIsLost (n : NodesView) : Type 0 where
  pub executors : (h : HostView) → Contains n.executors h → is_gone (Some h.slot) ≡ false
  pub verifiers : (v : Slot VerifierView) → Contains n.verifiers v → is_gone (Some v) ≡ false

-- ---- another process begins

-- a host whose executor is down
abbrev pub down_host : Kept → HostView
down_host kept = record { slot = Down kept; held = []; sent = [] }

abbrev pub down_verifier : Kept → Slot VerifierView
down_verifier kept = Down kept

-- all replicas are down, each with what was kept of it, and no letter is under way
abbrev pub begun_with : ProcessView → NodesView
begun_with p = record { u = p.u; proxies = p.proxies; executors = map down_host p.executors; verifiers = map down_verifier p.verifiers; mail = [] }
