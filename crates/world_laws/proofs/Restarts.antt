-- A replica that is opened again.
use Rattle.std.proofs.Common.{◌≡◌, ◌⊎◌, ℕ, Bool, List, [], ◌∷◌, Option, Some, None, inl, inr, refl, sym, ap, ◌∙◌, subst, slice_get, slice_set}
use Rattle.keeper.specs.Kept.{Kept}
use Rattle.decrees.specs.declared.ballot.Ballot.{Ballot}
use Rattle.decrees.specs.declared.node.Letter.{Letter}
use Rattle.decrees.specs.declared.node.Node.TheVariants as node
use Rattle.exec_lines.specs.declared.body.Body.{Body}
use Rattle.exec_node.specs.Executor.{ExecutorView, OpensExecutor}
use Rattle.verifier.specs.State.{VerifierState, new_state, down}
use Rattle.verifier.specs.Lines.{restarted}
use Rattle.verifier.specs.Record.{record_text}
use Rattle.verifier.specs.Verifier.{VerifierView, Opens}
use Rattle.agreement_laws.specs.Machine as machine
use Rattle.agreement_laws.specs.Machine.{Machine, Done, StopsAfter, Restart, saved_after, opened}
use Rattle.agreement_laws.specs.Verifiers.{IsIn, IsKeptAt}
use Rattle.agreement_laws.proofs.Machine.{Good}
use Rattle.agreement_laws.proofs.Verifiers.{opened_is_done}
use Rattle.agreement_laws.proofs.ReadBack.{begins_well}
use Rattle.slots.specs.Slot.{Slot}
use Rattle.slots.specs.declared.slot.Slot.TheVariants.{Up, Down, Gone}
use Rattle.slots.specs.Slots.{first_if_none, VerifierReopens, ExecutorReopens}
use Rattle.worlds.specs.World.{WorldView, with_verifier, VerifierAtOpened, ExecutorAtOpened}
use Rattle.world_laws.specs.Machines.{IsSameVerifier, IsOfMachine}
use Rattle.world_laws.proofs.OwnLetters.{AllFrom, resumed_sends}
use Rattle.world_laws.proofs.Follows.{Follows, stays, outside_sent, verifier_sent, verifier_silent, verifier_same}

-- ---- an executor sends only letters of its own

opens_sends : (u id : ℕ) (saved : Option (List ℕ)) (failures : ℕ) (told : Bool) (e : ExecutorView) (new : List (Letter Body)) → OpensExecutor u id saved failures told e new → AllFrom (node.Executor id) new
opens_sends u id None failures told e new h = subst (AllFrom (node.Executor id)) (sym h.1) tt
opens_sends u id (Some bytes) failures told e new h = subst (AllFrom (node.Executor id)) (sym h.2) (resumed_sends u id e.state)

reopened_sends : (u id : ℕ) (old now : Slot ExecutorView) (new : List (Letter Body)) → ExecutorReopens u id old now new → AllFrom (node.Executor id) new
reopened_sends u id (Up e) now new h = subst (AllFrom (node.Executor id)) (sym h.1) tt
reopened_sends u id (Gone kept) now new h = subst (AllFrom (node.Executor id)) (sym h.1) tt
reopened_sends u id (Down kept) now new (inl h) = opens_sends u id kept.saved kept.failures kept.fails_next h.1.0 new h.1.2
reopened_sends u id (Down kept) now new (inr h) = subst (AllFrom (node.Executor id)) (sym h.2) tt

pub executor_reopened : {may_trim : Bool} {u : ℕ} {w : WorldView} {m : Machine} (is : IsOfMachine u w m) (id : ℕ) (o : Option (Slot ExecutorView)) (now : WorldView) → ExecutorAtOpened w id o now → Follows may_trim u m now
executor_reopened is id None now h = stays is h
executor_reopened {may_trim} {u} {w} {m} is id (Some old) now h =
    subst (λ (y : WorldView). Follows may_trim u m y) (sym h.3) (outside_sent is w.clients (slice_set w.executors id h.0) (node.Executor id) h.1 tt (reopened_sends w.u id old h.0 h.1 h.2))

-- ---- a verifier

module _ {may_trim : Bool} {u : ℕ} {w : WorldView} {m : Machine} (is : IsOfMachine u w m) (good : Good u m) (id : ℕ) where
  first_follows : (v : VerifierView) (new : List (Letter Ballot)) → slice_get m.verifiers id ≡ Some machine.New → IsIn u id (machine.Up (new_state u id) (down (new_state u id))) v → new ≡ [] → Follows may_trim u m (with_verifier w id (Up v) new)
  first_follows v new at isin e = (
    Restart id Done ∷ [],
    refl,
    subst (IsOfMachine u (with_verifier w id (Up v) new)) (sym (ap (opened u m id Done) at))
        (verifier_silent is id machine.New (machine.Up (new_state u id) (down (new_state u id))) (Up v) new at isin e),
  )

  again_follows : (saved : VerifierState) (v : VerifierView) (new : List (Letter Ballot)) → slice_get m.verifiers id ≡ Some (machine.Stopped saved)
      → IsIn u id (machine.Up (restarted u id saved).state (saved_after saved (restarted u id saved))) v → new ≡ (restarted u id saved).letters → Follows may_trim u m (with_verifier w id (Up v) new)
  again_follows saved v new at isin e = (
    Restart id Done ∷ [],
    refl,
    subst (IsOfMachine u (with_verifier w id (Up v) new)) (sym (ap (opened u m id Done) at))
        (verifier_sent is id (machine.Stopped saved) (machine.Up (restarted u id saved).state (saved_after saved (restarted u id saved))) (Up v) new (restarted u id saved).letters at isin e),
  )

  goes_on : (kept : Kept) (v : VerifierView) (new : List (Letter Ballot)) (mine : machine.VerifierSlot) → slice_get m.verifiers id ≡ Some mine → IsKeptAt u id mine kept.saved → Opens u id kept.saved kept.failures kept.fails_next v new
      → Follows may_trim u m (with_verifier w id (Up v) new)
  goes_on kept v new (machine.Up s saved) at same h = absurd same
  goes_on kept v new machine.New at same h =
      let done = opened_is_done.new u id kept.failures kept.fails_next v new (subst (λ (o : Option (List ℕ)). Opens u id o kept.failures kept.fails_next v new) same h) in
      first_follows v new at done.0 done.1
  goes_on kept v new (machine.Stopped saved) at same h =
      let stands = good.stands id (machine.Stopped saved) at in
      let fresh : saved ≡ down saved = stands.1 in
      let begins = (begins_well good.letters stands.0.grounds.log).begins in
      let record_is : kept.saved ≡ Some (record_text u id (down saved)) = same ∙ ap (λ (s : VerifierState). Some (record_text u id s)) fresh in
      let done = opened_is_done.again u id kept.failures kept.fails_next saved v new begins (subst (λ (o : Option (List ℕ)). Opens u id o kept.failures kept.fails_next v new) record_is h) in
      let back = subst (λ (s : VerifierState). IsIn u id (machine.Up (restarted u id s).state (saved_after s (restarted u id s))) v × (new ≡ (restarted u id s).letters)) (sym fresh) done in
      again_follows saved v new at back.0 back.1

  -- it stays down, with what its keeper had, or with its first record
  stays_down : (kept left : Kept) (new : List (Letter Ballot)) (mine : machine.VerifierSlot) → slice_get m.verifiers id ≡ Some mine → IsKeptAt u id mine kept.saved → new ≡ []
      → ((left.saved ≡ kept.saved) ⊎ (left.saved ≡ first_if_none kept.saved (record_text u id (new_state u id)))) → Follows may_trim u m (with_verifier w id (Down left) new)
  stays_down kept left new mine at same none (inl e) = ([], refl, verifier_same is id mine (Down left) new at (kept_same mine same) none)
    where
      kept_same : (mine : machine.VerifierSlot) → IsKeptAt u id mine kept.saved → IsSameVerifier u id mine (Down left)
      kept_same (machine.Up s saved) k = absurd k
      kept_same machine.New k = e ∙ k
      kept_same (machine.Stopped saved) k = e ∙ k
  stays_down kept left new (machine.Up s saved) at same none (inr e) = absurd same
  stays_down kept left new (machine.Stopped saved) at same none (inr e) =
      let has : left.saved ≡ Some (record_text u id saved) = e ∙ ap (λ (o : Option (List ℕ)). first_if_none o (record_text u id (new_state u id))) same in
      ([], refl, verifier_same is id (machine.Stopped saved) (Down left) new at has none)
  stays_down kept left new machine.New at same none (inr e) =
      let has : left.saved ≡ Some (record_text u id (new_state u id)) = e ∙ ap (λ (o : Option (List ℕ)). first_if_none o (record_text u id (new_state u id))) same in (
        Restart id StopsAfter ∷ [],
        refl,
        subst (IsOfMachine u (with_verifier w id (Down left) new)) (sym (ap (opened u m id StopsAfter) at))
            (verifier_silent is id machine.New (machine.Stopped (down (new_state u id))) (Down left) new at has none),
      )

  reopens_follows : (old now : Slot VerifierView) (new : List (Letter Ballot)) (mine : machine.VerifierSlot) → slice_get m.verifiers id ≡ Some mine → IsSameVerifier u id mine old → VerifierReopens u id old now new → Follows may_trim u m (with_verifier w id now new)
  reopens_follows (Up v) now new mine at same h = ([], refl, verifier_same is id mine now new at (subst (IsSameVerifier u id mine) (sym h.0) same) h.1)
  reopens_follows (Gone kept) now new mine at same h = ([], refl, verifier_same is id mine now new at (subst (IsSameVerifier u id mine) (sym h.0) same) h.1)
  reopens_follows (Down kept) now new mine at same (inl h) =
      subst (λ (y : Slot VerifierView). Follows may_trim u m (with_verifier w id y new)) (sym h.1.1) (goes_on kept h.1.0 new mine at (kept_of mine same) h.1.2)
    where
      kept_of : (mine : machine.VerifierSlot) → IsSameVerifier u id mine (Down kept) → IsKeptAt u id mine kept.saved
      kept_of (machine.Up s saved) k = k
      kept_of machine.New k = k
      kept_of (machine.Stopped saved) k = k
  reopens_follows (Down kept) now new mine at same (inr h) =
      subst (λ (y : Slot VerifierView). Follows may_trim u m (with_verifier w id y new)) (sym h.1) (stays_down kept h.0 new mine at (kept_of mine same) h.2 h.3.record_is)
    where
      kept_of : (mine : machine.VerifierSlot) → IsSameVerifier u id mine (Down kept) → IsKeptAt u id mine kept.saved
      kept_of (machine.Up s saved) k = k
      kept_of machine.New k = k
      kept_of (machine.Stopped saved) k = k

  pub verifier_reopened : (o : Option (Slot VerifierView)) (now : WorldView) → slice_get w.verifiers id ≡ o → VerifierAtOpened w id o now → Follows may_trim u m now
  verifier_reopened None now at h = stays is h
  verifier_reopened (Some old) now at h =
      let there = is.verifiers id old at in
      subst (λ (y : WorldView). Follows may_trim u m y) (sym h.3)
      (reopens_follows old h.0 h.1 there.0 there.1 there.2 (subst (λ (y : ℕ). VerifierReopens y id old h.0 h.1) is.same_u h.2))
