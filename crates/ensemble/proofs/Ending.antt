-- A process that ends, and another one that begins with what was kept, are crashes of all replicas.
use Rattle.std.proofs.Common.{◌≡◌, ℕ, false, List, [], ◌∷◌, ◌++◌, length, map, Option, None, Some, slice_get, slice_set, refl, sym, ap, ◌∙◌, subst, append_assoc}
use Rattle.std.specs.Prelude.{Contains}
use Rattle.std.proofs.lemmas.List.{append-nil}
use Rattle.keeper.specs.Kept.{Kept}
use Rattle.decrees.specs.declared.node.Letter.{Letter}
use Rattle.exec_lines.specs.declared.body.Body.{Body}
use Rattle.exec_node.specs.Executor.{ExecutorView}
use Rattle.verifier.specs.Verifier.{VerifierView}
use Rattle.events.specs.declared.event.Event.TheVariants.{Crash}
use Rattle.events.specs.declared.event.Replica.TheVariants.{Executor, Verifier}
use Rattle.slots.specs.Slot.{Slot}
use Rattle.slots.specs.declared.slot.Slot.TheVariants.{Up, Down, Gone}
use Rattle.slots.specs.Slots.{executor_kept, verifier_kept, crashed_slot}
use Rattle.worlds.specs.World.{WorldView, WorldNext, changed_at}
use Rattle.slots.specs.Status.{kept_at, is_gone}
use Rattle.worlds.proofs.FirstLemmas.{get_seam, set_seam}
use Rattle.hosts.specs.Host.{HostView}
use Rattle.ensemble.specs.Nodes.{NodesView}
use Rattle.ensemble.specs.Ensemble.{EnsembleView, HasSent, IsLike, IsEnsemble}
use Rattle.ensemble.specs.Kept.{ProcessView, kept_of_host, kept_of_verifier, process_of, NoneIsLost, down_host, down_verifier, begun_with}
use Rattle.ensemble.specs.Process.{reopened_ensemble, ensemble_after, IsEnsembleAfter}
use Rattle.ensemble.proofs.Lists.{in_none, in_head, in_tail, get_map}
use Rattle.ensemble.proofs.Served.{any_besides}
use Rattle.ensemble.proofs.Goes.{Moves, stays, moves_by, moves_on, Goes, same_proxies, ensemble_stays}

abbrev slot_of : HostView → Slot ExecutorView
slot_of h = h.slot

abbrev stopped_executor : Slot ExecutorView → Slot ExecutorView
stopped_executor slot = crashed_slot executor_kept slot

abbrev stopped_verifier : Slot VerifierView → Slot VerifierView
stopped_verifier slot = crashed_slot verifier_kept slot

-- ---- all replicas crash

pub executor_crashes : {cut : Option ℕ} → (w : WorldView) (id : ℕ) (slot : Slot ExecutorView) → slice_get w.executors id ≡ Some slot → Moves cut w (record w { executors = slice_set w.executors id (stopped_executor slot) })
executor_crashes {cut} w id slot at =
    let now : WorldView = record w { executors = slice_set w.executors id (stopped_executor slot) } in
    let next : WorldNext w (Crash (Executor id)) now = λ i. record w { executors = changed_at w.executors id (crashed_slot executor_kept) (sym at i) } in
    moves_by w now (Crash (Executor id)) [] next (λ client. refl) (λ moment c. absurd (cc c)) (sym (append-nil w.letters))

-- those behind these
executors_crash : {cut : Option ℕ} → (w : WorldView) (these rest : List (Slot ExecutorView)) → w.executors ≡ these ++ rest → Moves cut w (record w { executors = these ++ map stopped_executor rest })
executors_crash {cut} w these [] is = stays w (record w { executors = these ++ [] }) (λ i. record w { executors = sym is i })
executors_crash {cut} w these (slot ∷ rest) is =
    let left = stopped_executor slot in
    let there : slice_get w.executors (length these) ≡ Some slot = ap (λ (slots : List (Slot ExecutorView)). slice_get slots (length these)) is ∙ get_seam these slot rest in
    let mid : WorldView = record w { executors = slice_set w.executors (length these) left } in
    let at : mid.executors ≡ (these ++ left ∷ []) ++ rest =
    ap (λ (slots : List (Slot ExecutorView)). slice_set slots (length these) left) is ∙ (set_seam these slot rest left ∙ sym (append_assoc these (left ∷ []) rest)) in
    let now : WorldView = record w { executors = (these ++ left ∷ []) ++ map stopped_executor rest } in
    let first : Moves cut w mid = executor_crashes w (length these) slot there in
    let later : Moves cut mid now = executors_crash mid (these ++ left ∷ []) rest at in
    subst (λ (slots : List (Slot ExecutorView)). Moves cut w (record w { executors = slots })) (append_assoc these (left ∷ []) (map stopped_executor rest)) (moves_on w mid now first later)

pub verifier_crashes : {cut : Option ℕ} → (w : WorldView) (id : ℕ) (slot : Slot VerifierView) → slice_get w.verifiers id ≡ Some slot → Moves cut w (record w { verifiers = slice_set w.verifiers id (stopped_verifier slot) })
verifier_crashes {cut} w id slot at =
    let now : WorldView = record w { verifiers = slice_set w.verifiers id (stopped_verifier slot) } in
    let next : WorldNext w (Crash (Verifier id)) now = λ i. record w { verifiers = changed_at w.verifiers id (crashed_slot verifier_kept) (sym at i) } in
    moves_by w now (Crash (Verifier id)) [] next (λ client. refl) (λ moment c. absurd (cc c)) (sym (append-nil w.letters))

verifiers_crash : {cut : Option ℕ} → (w : WorldView) (these rest : List (Slot VerifierView)) → w.verifiers ≡ these ++ rest → Moves cut w (record w { verifiers = these ++ map stopped_verifier rest })
verifiers_crash {cut} w these [] is = stays w (record w { verifiers = these ++ [] }) (λ i. record w { verifiers = sym is i })
verifiers_crash {cut} w these (slot ∷ rest) is =
    let left = stopped_verifier slot in
    let there : slice_get w.verifiers (length these) ≡ Some slot = ap (λ (slots : List (Slot VerifierView)). slice_get slots (length these)) is ∙ get_seam these slot rest in
    let mid : WorldView = record w { verifiers = slice_set w.verifiers (length these) left } in
    let at : mid.verifiers ≡ (these ++ left ∷ []) ++ rest =
    ap (λ (slots : List (Slot VerifierView)). slice_set slots (length these) left) is ∙ (set_seam these slot rest left ∙ sym (append_assoc these (left ∷ []) rest)) in
    let now : WorldView = record w { verifiers = (these ++ left ∷ []) ++ map stopped_verifier rest } in
    let first : Moves cut w mid = verifier_crashes w (length these) slot there in
    let later : Moves cut mid now = verifiers_crash mid (these ++ left ∷ []) rest at in
    subst (λ (slots : List (Slot VerifierView)). Moves cut w (record w { verifiers = slots })) (append_assoc these (left ∷ []) (map stopped_verifier rest)) (moves_on w mid now first later)

-- ---- they are down then, with what their keepers had

is_down : {N : Type 0} (keeps : N → Kept) (slot : Slot N) → is_gone (Some slot) ≡ false → crashed_slot keeps slot ≡ Down (kept_at keeps slot)
is_down keeps (Up n) here = refl
is_down keeps (Down kept) here = refl
is_down keeps (Gone kept) here = absurd (cc here)

executors_down : (hosts : List HostView) → ((h : HostView) → Contains hosts h → is_gone (Some h.slot) ≡ false) → map stopped_executor (map slot_of hosts) ≡ map slot_of (map down_host (map kept_of_host hosts))
executors_down [] here = refl
executors_down (h ∷ hosts) here = λ i. is_down executor_kept h.slot (here h (in_head h hosts)) i ∷ executors_down hosts (λ x c. here x (in_tail h x hosts c)) i

verifiers_down : (slots : List (Slot VerifierView)) → ((v : Slot VerifierView) → Contains slots v → is_gone (Some v) ≡ false) → map stopped_verifier slots ≡ map down_verifier (map kept_of_verifier slots)
verifiers_down [] here = refl
verifiers_down (v ∷ slots) here = λ i. is_down verifier_kept v (here v (in_head v slots)) i ∷ verifiers_down slots (λ x c. here x (in_tail v x slots c)) i

-- and their hosts hold nothing
holds_nothing : (kept : List Kept) (id : ℕ) (h : HostView) (letters : List (Letter Body)) → slice_get (map down_host kept) id ≡ Some h → HasSent h id letters
holds_nothing kept id h letters at =
    let found = get_map down_host kept id h at in
    subst (λ (x : HostView). HasSent x id letters) found.2 (record { held = λ l c. absurd (in_none l c); sent = λ l c. absurd (in_none l c) })

begins : {cut : Option ℕ} → (n : NodesView) (w : WorldView) → IsLike n w → NoneIsLost n → Goes cut n (begun_with (process_of n)) w
begins {cut} n w like all =
    let mid : WorldView = record w { executors = map stopped_executor w.executors } in
    let now : WorldView = record mid { verifiers = map stopped_verifier w.verifiers } in
    record {
      world = now;
      moves = moves_on w mid now (executors_crash w [] w.executors refl) (verifiers_crash mid [] w.verifiers refl);
      like = record {
        same_u = like.same_u;
        executors = ap (λ (slots : List (Slot ExecutorView)). map stopped_executor slots) like.executors ∙ executors_down n.executors all.executors;
        verifiers = ap (λ (slots : List (Slot VerifierView)). map stopped_verifier slots) like.verifiers ∙ verifiers_down n.verifiers all.verifiers;
        clients = like.clients;
        mail = λ l c. absurd (in_none l c);
        hosts = λ id h at. holds_nothing (map kept_of_host n.executors) id h w.letters at;
      };
      same_u = refl;
      proxies = same_proxies n.proxies n.proxies refl;
    }

pub comes_back : (e : EnsembleView) → IsEnsemble e → NoneIsLost e.nodes → IsEnsemble (record e { nodes = begun_with (process_of e.nodes) })
comes_back e h all = ensemble_stays e (begun_with (process_of e.nodes)) h (begins e.nodes h.now h.like all)

-- ---- processes one after the other

pub begins_after : (found : ProcessView) → IsEnsembleAfter (Some found) (reopened_ensemble found)
begins_after found before h all is =
    let back = any_besides (record before { nodes = begun_with (process_of before.nodes) }) 0 before.found (comes_back before h all) in
    let same : record before { nodes = begun_with (process_of before.nodes); refused = 0 } ≡ ensemble_after before (reopened_ensemble found) =
    λ i. record { nodes = begun_with (is i); asked = sym (append-nil before.asked) i; answered = sym (append-nil before.answered) i; order = sym (append-nil before.order) i; refused = 0; found = before.found } in
    subst (λ (e : EnsembleView). IsEnsemble e) same back

-- whatever was before, the ensemble may become this one
abbrev pub MayBecome : EnsembleView → EnsembleView → Type 0
MayBecome e now = (before : EnsembleView) → IsEnsemble (ensemble_after before e) → IsEnsemble (ensemble_after before now)

pub goes_on_after : (found : Option ProcessView) (e now : EnsembleView) → MayBecome e now → IsEnsembleAfter found e → IsEnsembleAfter found now
goes_on_after None e now step h = step (record e { asked = []; answered = []; order = []; found = now.found }) (any_besides e e.refused now.found h)
goes_on_after (Some found) e now step h = λ before was all is. step before (h before was all is)

-- what came before both, and what came before the second of them
after_each_other : (first second third : EnsembleView) → ensemble_after (ensemble_after first second) third ≡ ensemble_after first (ensemble_after second third)
after_each_other first second third = λ i. record {
  nodes = third.nodes;
  asked = append_assoc first.asked second.asked third.asked i;
  answered = append_assoc first.answered second.answered third.answered i;
  order = append_assoc first.order second.order third.order i;
  refused = third.refused;
  found = first.found;
}

pub follows_after : (found : Option ProcessView) (e later : EnsembleView) → IsEnsembleAfter found e → NoneIsLost e.nodes → IsEnsembleAfter (Some (process_of e.nodes)) later → IsEnsembleAfter found (ensemble_after e later)
follows_after None e later h all next = next e h all refl
follows_after (Some found) e later h all next = λ before was had is.
    subst (λ (x : EnsembleView). IsEnsemble x) (after_each_other before e later) (next (ensemble_after before e) (h before was had is) all refl)
