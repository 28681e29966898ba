-- The lives of a member: its processes, one after the other, each of which begins with what was kept of the one before.
use Rattle.std.specs.Prelude.{◌≡◌, ℕ, ◌≤◌, Bool, false, List, [], ◌∷◌, ◌++◌, Option, None, Some, slice_get, slice_set, refl}
use Rattle.std.specs.Coded.{Coded, code_by, coded×, coded_ℕ, coded_bool, coded_list, coded_option}
use Rattle.keeper.specs.Kept.{Kept}
use Rattle.verifier.specs.Verifier.{VerifierView}
use Rattle.events.specs.Config.{ConfigView}
use Rattle.slots.specs.Slot.{Slot}
use Rattle.slots.specs.Status.{is_gone}
use Rattle.proxies.specs.Proxy.{ProxyView}
use Rattle.hosts.specs.Host.{HostView}
use Rattle.ensemble.specs.Nodes.{NodesView}
use Rattle.ensemble.specs.Kept.{kept_of_host, kept_of_verifier, down_host, down_verifier}
use Rattle.site_laws.specs.Orders.{deeds_of, AreAllowed, DoesAll, shows}
use Rattle.site_laws.specs.Site.{Deed, Forgot, ExecutorEnded, VerifierEnded, Does, HadLeft, IsSite, Shown, shown_by, WentBefore, ShowsSite, unopened_nodes}

-- ---- what is kept of a member

-- What is kept of a member: what the keepers of its executor and its verifier have, and what each proxy asked last.
pub record MemberKept : Type 0 where
  -- the number of the member, and how many of the members may fail
  pub id : ℕ
  pub u : ℕ
  pub executor : Kept
  pub verifier : Kept
  -- of all members, by their numbers: those of others have asked nothing
  pub proxies : List ProxyView

abbrev kept_code : Coded Kept
kept_code =
    code_by ((Option (List ℕ) × ℕ) × Bool) (coded× (coded× (coded_option (coded_list coded_ℕ)) coded_ℕ) coded_bool)
    (λ k. ((k.saved, k.failures), k.fails_next))
    (λ p. record { saved = p.0.0; failures = p.0.1; fails_next = p.1 })
    (λ _. refl)

-- it is identified by what it has
abbrev pub member_kept_code : Coded ProxyView → Coded MemberKept
member_kept_code proxy =
    code_by ((((ℕ × ℕ) × Kept) × Kept) × List ProxyView)
    (coded× (coded× (coded× (coded× coded_ℕ coded_ℕ) kept_code) kept_code) (coded_list proxy))
    (λ k. ((((k.id, k.u), k.executor), k.verifier), k.proxies))
    (λ p. record { id = p.0.0.0.0; u = p.0.0.0.1; executor = p.0.0.1; verifier = p.0.1; proxies = p.1 })
    (λ _. refl)

-- the executor of this number is there and not lost for good, and its keeper has this
pub record KeepsExecutor (executors : List HostView) (id : ℕ) (kept : Kept) : Type 0 where
  pub host : HostView
  pub there : slice_get executors id ≡ Some host
  pub not_lost : is_gone (Some host.slot) ≡ false
  pub has : kept ≡ kept_of_host host

-- a verifier alike
pub record KeepsVerifier (verifiers : List (Slot VerifierView)) (id : ℕ) (kept : Kept) : Type 0 where
  pub slot : Slot VerifierView
  pub there : slice_get verifiers id ≡ Some slot
  pub not_lost : is_gone (Some slot) ≡ false
  pub has : kept ≡ kept_of_verifier slot

-- This is kept of member m if its process ends when its nodes are these.
pub record IsKeptOf (m : ℕ) (n : NodesView) (kept : MemberKept) : Type 0 where
  pub id : kept.id ≡ m
  pub same_u : kept.u ≡ n.u
  pub executor : KeepsExecutor n.executors m kept.executor
  pub verifier : KeepsVerifier n.verifiers m kept.verifier
  pub proxies : kept.proxies ≡ n.proxies

-- ---- a process begins

-- The nodes with which a process of member m begins that found this: its executor and its verifier are down, each with what was kept of it, and the proxies have outstanding what they had. No letter is under way, and the replicas of other members were never opened.
abbrev pub nodes_with : ConfigView → ℕ → MemberKept → NodesView
nodes_with c m kept = record {
  u = c.u;
  proxies = kept.proxies;
  executors = slice_set (unopened_nodes c).executors m (down_host kept.executor);
  verifiers = slice_set (unopened_nodes c).verifiers m (down_verifier kept.verifier);
  mail = [];
}

-- the nodes with which it begins, whether it found something or not
abbrev pub begun_nodes : ConfigView → ℕ → Option MemberKept → NodesView
begun_nodes c m None = unopened_nodes c
begun_nodes c m (Some kept) = nodes_with c m kept

-- ---- lives

-- what the end of a process does, as deeds: the letters that were under way are gone, and both replicas crashed
abbrev pub ending : List Deed
ending = Forgot ∷ ExecutorEnded ∷ VerifierEnded ∷ []

-- A process of a member that ended, up to the save that the next one found. What it did after that is nowhere, so nothing of it may have left the process.
pub record Life : Type 0 where
  -- what it did up to that save
  pub deeds : List Deed
  -- the nodes that this led to, and what was kept of them
  pub saved : NodesView
  pub kept : MemberKept

-- what a member did: each of its lives up to the save that the next one found, then the end of that process, and at last what this one did
abbrev pub deeds_in : List Life → List Deed → List Deed
deeds_in [] deeds = deeds
deeds_in (life ∷ lives) deeds = life.deeds ++ (ending ++ deeds_in lives deeds)

-- what is shown of that
abbrev pub shown_in_lives : List Life → List Deed → List Shown
shown_in_lives [] deeds = shows shown_by deeds
shown_in_lives (life ∷ lives) deeds = shows shown_by life.deeds ++ shown_in_lives lives deeds

module _ (c : ConfigView) (home : ℕ → ℕ) (m : ℕ) where
  -- The first of these processes of member m began with what was found, each other one with what was kept of the one before. The last did these deeds so far, which led it to these nodes.
  abbrev pub AreLives : Option MemberKept → List Life → List Deed → NodesView → Type 0
  AreLives found [] deeds now = DoesAll (Does home) m (begun_nodes c m found) deeds now
  AreLives found (life ∷ lives) deeds now =
      DoesAll (Does home) m (begun_nodes c m found) life.deeds life.saved × IsKeptOf m life.saved life.kept × AreLives (Some life.kept) lives deeds now

-- ---- laws

-- A process that ended after these deeds, with the end itself, led the member to just where the next process begins.
abbrev pub LifeLeadsToNext : Type 0
LifeLeadsToNext = (c : ConfigView) (home : ℕ → ℕ) (m : ℕ) (found : Option MemberKept) (deeds : List Deed) (saved : NodesView) (kept : MemberKept)
    → DoesAll (Does home) m (begun_nodes c m found) deeds saved → IsKeptOf m saved kept → DoesAll (Does home) m (begun_nodes c m found) (deeds ++ ending) (nodes_with c m kept)

-- The law of a site whose members have lives. In whatever order all these deeds were done, if each letter left before it came, the members are parts of one ensemble. A letter that left after the save that was found is in no list: so it may not have come to anyone.
abbrev pub SiteOfLivesIsEnsemble : Type 0
SiteOfLivesIsEnsemble = (c : ConfigView) (home : ℕ → ℕ) (order : List (ℕ × Deed)) (lives : ℕ → List Life) (deeds : ℕ → List Deed) (now : ℕ → NodesView)
    → ((m : ℕ) → AreLives c home m None (lives m) (deeds m) (now m)) → ((m : ℕ) → deeds_of m order ≡ deeds_in (lives m) (deeds m))
    → AreAllowed HadLeft [] order → IsSite home now order

-- The same of what is shown alone. Members are numbered below `count`.
abbrev pub SiteOfLivesIsShown : Type 0
SiteOfLivesIsShown = (c : ConfigView) (home : ℕ → ℕ) (count : ℕ) (order : List (ℕ × Shown)) (lives : ℕ → List Life) (deeds : ℕ → List Deed) (now : ℕ → NodesView)
    → ((m : ℕ) → AreLives c home m None (lives m) (deeds m) (now m)) → ((m : ℕ) → shown_in_lives (lives m) (deeds m) ≡ deeds_of m order) → ((m : ℕ) → count ≤ m → deeds_in (lives m) (deeds m) ≡ [])
    → AreAllowed WentBefore [] order → ShowsSite home order now
