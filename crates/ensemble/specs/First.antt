-- The nodes when all replicas were opened.
use Rattle.std.specs.Prelude.{◌≡◌, ℕ, zero, suc, ◌+◌, ◌*◌, ◌<◌, true, List, [], ◌∷◌, ◌++◌, None}
use Rattle.decrees.specs.Count.{member_count}
use Rattle.events.specs.Config.{ConfigView}
use Rattle.events.specs.declared.event.Replica.TheVariants.{Executor, Verifier}
use Rattle.slots.specs.declared.slot.Slot.TheVariants.{Up}
use Rattle.worlds.specs.First.{first_executor, first_verifier, all_up}
use Rattle.proxies.specs.Proxy.{ProxyView}
use Rattle.hosts.specs.Host.{HostView}
use Rattle.ensemble.specs.Nodes.{NodesView, size_of}
use Rattle.ensemble.specs.Shown.{is_up_at}

-- so many proxies that have asked nothing, numbered from 1
abbrev pub first_proxies_of : ℕ → List ProxyView
first_proxies_of zero = []
first_proxies_of (suc n) = first_proxies_of n ++ record { client = suc n; last = 0; asked = None } ∷ []

-- the host of an executor that was just opened
abbrev pub first_host : ℕ → ℕ → HostView
first_host u id = record { slot = Up (first_executor u id); held = []; sent = [] }

abbrev pub first_hosts : ℕ → ℕ → List HostView
first_hosts u zero = []
first_hosts u (suc n) = first_hosts u n ++ first_host u n ∷ []

abbrev pub first_nodes : ConfigView → NodesView
first_nodes c = record {
  u = c.u;
  proxies = first_proxies_of c.clients;
  executors = first_hosts c.u (member_count c.u);
  verifiers = all_up (first_verifier c.u) (member_count c.u);
  mail = [];
}

-- These are 2u + 1 executors and as many verifiers of this u, all up, and so many proxies.
pub record AreAllUp (u count : ℕ) (n : NodesView) : Type 0 where
  pub size : size_of n ≡ (u, count, 2 * u + 1, 2 * u + 1)
  pub executors : (id : ℕ) → id < 2 * u + 1 → is_up_at n (Executor id) ≡ true
  pub verifiers : (id : ℕ) → id < 2 * u + 1 → is_up_at n (Verifier id) ≡ true
