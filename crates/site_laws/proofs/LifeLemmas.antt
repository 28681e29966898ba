-- The lives of a member are one list of deeds.
use Rattle.std.proofs.Common.{◌≡◌, inl, ℕ, ◌≤◌, false, List, [], ◌∷◌, ◌++◌, Option, None, Some, slice_get, slice_set, refl, sym, ap, ◌∙◌, subst, append_assoc}
use Rattle.std.specs.declared.alloc.Global.{Global}
use Rattle.keeper.specs.Kept.{Kept}
use Rattle.verifier.specs.Verifier.{VerifierView}
use Rattle.events.specs.Config.{ConfigView}
use Rattle.slots.specs.Slot.{Slot}
use Rattle.slots.specs.declared.slot.Slot.TheVariants.{Up, Down, Gone}
use Rattle.slots.specs.Slots.{executor_kept, verifier_kept, crashed_slot}
use Rattle.slots.specs.Status.{kept_at, is_gone}
use Rattle.slots.specs.Runs.{RunIsSteps}
use Rattle.hosts.specs.Host.{HostView}
use Rattle.ensemble.specs.Nodes.{NodesView, AtHostIn, HostMoves, AtVerifierIn, VerifierMoves}
use Rattle.ensemble.specs.Kept.{kept_of_host, kept_of_verifier, down_host, down_verifier}
use Rattle.ensemble.specs.Calls.{VerifierCrashes}
use Rattle.ensemble.proofs.Lists.{set_twice, in_none}
use Rattle.site_laws.specs.Orders.{deeds_of, DoesAll, entry_of, shows}
use Rattle.site_laws.specs.Site.{Deed, HostEnds, Does, Shown, shown_by, unopened_nodes}
use Rattle.site_laws.specs.Lives.{MemberKept, IsKeptOf, nodes_with, begun_nodes, ending, Life, deeds_in, shown_in_lives, AreLives, LifeLeadsToNext, SiteOfLivesIsEnsemble, SiteOfLivesIsShown}
use Rattle.site_laws.proofs.Merge.{one_after}
use Rattle.site_laws.proofs.Own.{OwnOnly, own_begun, own_all}
use Rattle.site_laws.proofs.Whole.{site_is_ensemble, site_is_shown}

-- ---- the end of a process

is_down : {N : Type 0} (keeps : N → Kept) (slot : Slot N) → is_gone (Some slot) ≡ false → crashed_slot keeps slot ≡ Down (kept_at keeps slot)
is_down keeps (Up n) here = refl
is_down keeps (Down kept) here = refl
is_down keeps (Gone kept) here = absurd (cc here)

host_ends : (h : HostView) (kept : Kept) → is_gone (Some h.slot) ≡ false → kept ≡ kept_of_host h → HostEnds h (down_host kept) []
host_ends h kept here has =
    let ended : ◌≡◌ {A = HostView} (record { slot = crashed_slot executor_kept h.slot; held = []; sent = [] }) (down_host (kept_of_host h)) = λ i. record { slot = is_down executor_kept h.slot here i; held = []; sent = [] } in
    (ap down_host has ∙ sym ended, refl)

verifier_ends : (v : Slot VerifierView) (kept : Kept) → is_gone (Some v) ≡ false → kept ≡ kept_of_verifier v → VerifierCrashes v (down_verifier kept) []
verifier_ends v kept here has = (ap down_verifier has ∙ sym (is_down verifier_kept v here), refl)

module _ (c : ConfigView) (home : ℕ → ℕ) (m : ℕ) where
  -- the end of a process leads to where the next one begins
  ends : (n : NodesView) (kept : MemberKept) → OwnOnly c m n → IsKeptOf m n kept → DoesAll (Does home) m n ending (nodes_with c m kept)
  ends n kept o k =
      let host : HostView = down_host kept.executor in
      let slot : Slot VerifierView = down_verifier kept.verifier in
      let hosts : List HostView = slice_set n.executors m host in
      let slots : List (Slot VerifierView) = slice_set n.verifiers m slot in
      let silent : NodesView = record n { mail = [] } in
      let one_down : NodesView = record silent { executors = hosts } in
      let both_down : NodesView = record one_down { verifiers = slots } in
      let executor : HostMoves HostEnds m silent one_down =
      (hosts, [], [], subst (λ (at : Option HostView). AtHostIn HostEnds m n.executors hosts [] at) (sym k.executor.there) (host, host_ends k.executor.host kept.executor k.executor.not_lost k.executor.has, refl), inl refl, refl) in
      let verifier : VerifierMoves VerifierCrashes m one_down both_down =
      (slots, [], [], subst (λ (at : Option (Slot VerifierView)). AtVerifierIn VerifierCrashes m n.verifiers slots [] at) (sym k.verifier.there) (slot, verifier_ends k.verifier.slot kept.verifier k.verifier.not_lost k.verifier.has, refl), inl refl, refl) in
      let same_hosts : slice_set (unopened_nodes c).executors m host ≡ hosts = sym (ap (λ (hs : List HostView). slice_set hs m host) o.executors ∙ set_twice (unopened_nodes c).executors m o.host host) in
      let same_slots : slice_set (unopened_nodes c).verifiers m slot ≡ slots = sym (ap (λ (vs : List (Slot VerifierView)). slice_set vs m slot) o.verifiers ∙ set_twice (unopened_nodes c).verifiers m o.slot slot) in
      let same : nodes_with c m kept ≡ both_down = λ i. record { u = sym o.same_u i; proxies = k.proxies i; executors = same_hosts i; verifiers = same_slots i; mail = [] } in
      (silent, ([], (λ l x. absurd (in_none l x)), refl), (one_down, executor, (both_down, verifier, same)))

  pub ended : (found : Option MemberKept) (n : NodesView) (deeds : List Deed) (kept : MemberKept) → DoesAll (Does home) m (begun_nodes c m found) deeds n → IsKeptOf m n kept → DoesAll (Does home) m n ending (nodes_with c m kept)
  ended found n deeds kept did k = ends n kept (own_all home c m (begun_nodes c m found) n deeds did (own_begun c m found)) k

  -- ---- one life after the other

  lead : (found : Option MemberKept) (lives : List Life) (deeds : List Deed) (now : NodesView) → AreLives c home m found lives deeds now → DoesAll (Does home) m (begun_nodes c m found) (deeds_in lives deeds) now
  lead found [] deeds now did = did
  lead found (life ∷ lives) deeds now did =
      one_after (Does home) m (begun_nodes c m found) life.saved now life.deeds (ending ++ deeds_in lives deeds) did.0
      (one_after (Does home) m life.saved (nodes_with c m life.kept) now ending (deeds_in lives deeds) (ended found life.saved life.deeds life.kept did.0 did.1) (lead (Some life.kept) lives deeds now did.2))

pub leads_to_next : LifeLeadsToNext
leads_to_next c home m found deeds saved kept did is =
    one_after (Does home) m (begun_nodes c m found) saved (nodes_with c m kept) deeds ending did (ended c home m found saved deeds kept did is)

-- ---- what is shown

pub shows_both : (xs ys : List Deed) → shows shown_by (xs ++ ys) ≡ shows shown_by xs ++ shows shown_by ys
shows_both [] ys = refl
shows_both (x ∷ xs) ys = ap (λ (vs : List Shown). entry_of shown_by (shown_by x) ++ vs) (shows_both xs ys) ∙ sym (append_assoc (entry_of shown_by (shown_by x)) (shows shown_by xs) (shows shown_by ys))

-- the end of a process shows nothing
shows_in : (lives : List Life) (deeds : List Deed) → shows shown_by (deeds_in lives deeds) ≡ shown_in_lives lives deeds
shows_in [] deeds = refl
shows_in (life ∷ lives) deeds = shows_both life.deeds (ending ++ deeds_in lives deeds) ∙ ap (λ (vs : List Shown). shows shown_by life.deeds ++ vs) (shows_in lives deeds)

-- ---- the laws

pub lives_are_ensemble : RunIsSteps → Global → SiteOfLivesIsEnsemble
lives_are_ensemble steps alloc c home order lives deeds now did same allowed =
    site_is_ensemble steps alloc c home order now
    (λ m. subst (λ (ds : List Deed). DoesAll (Does home) m (unopened_nodes c) ds (now m)) (sym (same m)) (lead c home m None (lives m) (deeds m) (now m) (did m))) allowed

pub lives_are_shown : RunIsSteps → Global → SiteOfLivesIsShown
lives_are_shown steps alloc c home count order lives deeds now did show few went =
    site_is_shown steps alloc c home count order (λ m. deeds_in (lives m) (deeds m)) now (λ m. lead c home m None (lives m) (deeds m) (now m) (did m)) (λ m. shows_in (lives m) (deeds m) ∙ show m) few went
