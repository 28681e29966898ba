-- What the code's verifier promises are the machine's lines.
use Rattle.std.proofs.Common.{◌≡◌, ℕ, zero, suc, Bool, true, false, List, [], ◌∷◌, Some, slice_get, slice_set, refl, sym, ◌∙◌, ap, subst, option_and_then, if◌then◌else◌}
use Rattle.decrees.specs.Start.{could_stand}
use Rattle.verifier.specs.declared.input.Input.{Input}
use Rattle.verifier.specs.State.{VerifierState, new_state, down}
use Rattle.verifier.specs.Lines.{restarted}
use Rattle.verifier.specs.Step.{step}
use Rattle.verifier.specs.Record.{record_text, IsRecord}
use Rattle.verifier.specs.Verifier.{VerifierView, Opens, outcome, handled}
use Rattle.verifier.proofs.RecordsApart.{text_apart}
use Rattle.agreement_laws.specs.Machine.{VerifierSlot, New, Up, Stopped, StopsBefore, saved_after, opened}
use Rattle.agreement_laws.specs.Laws.{recorded}
use Rattle.agreement_laws.specs.Verifiers.{IsIn, HandledIsDone, RefusedIsStopped, OpenedIsDone, ReopenedIsDone, RefusedOpenIsStopped}
use Rattle.agreement_laws.proofs.ReadBack.{record_fresh, record_begins}

abbrev view_of : ℕ → ℕ → VerifierState → VerifierState → ℕ → Bool → VerifierView
view_of u id s saved failures told = record { id = id; u = u; state = s; up = true; saved = Some (record_text u id saved); failures = failures; told = told }

-- the bytes of the record after a step are those of what it has
record_bytes : (u id : ℕ) (after saved : VerifierState) (b : Bool) → (if b then Some (record_text u id after) else Some (record_text u id saved)) ≡ Some (record_text u id (if b then down after else saved))
record_bytes u id after saved true = refl
record_bytes u id after saved false = refl

handled_of : (u id : ℕ) (s saved : VerifierState) (failures : ℕ) (told : Bool) (x : Input) → handled (view_of u id s saved failures told) x ≡ view_of u id (step u id s x).state (saved_after saved (step u id s x)) failures told
handled_of u id s saved failures told x =
    let e = record_bytes u id (step u id s x).state saved (step u id s x).saves in
    λ i. record { id = id; u = u; state = (step u id s x).state; up = true; saved = e i; failures = failures; told = told }

pub handled_is_done : HandledIsDone
handled_is_done u id s saved verifier x e = (
  ap (λ (z : VerifierView). handled z x) e ∙ handled_of u id s saved verifier.failures verifier.told x,
  ap (λ (z : VerifierView). (outcome z x).letters) e,
)

pub refused_is_stopped : RefusedIsStopped
refused_is_stopped u id s saved verifier after e same stopped kept = (
  same.0 ∙ ap (λ (z : VerifierView). z.id) e,
  same.1 ∙ ap (λ (z : VerifierView). z.u) e,
  stopped,
  kept ∙ ap (λ (z : VerifierView). z.saved) e,
)

-- a record is of one state that is just up
state_of_record : (u id : ℕ) (s t : VerifierState) → could_stand s.start.place s.start.standing ≡ true → IsRecord u id (record_text u id (down s)) t → t ≡ down s
state_of_record u id s t begins r = text_apart u id t (down s) r.begins begins r.fresh refl (sym r.spelled)

pub opened_is_done : OpenedIsDone
opened_is_done = record {
  new = λ u id failures told verifier letters o.
      (o.0 ∙ (λ i. view_of u id (new_state u id) (down (new_state u id)) (ap (λ (z : VerifierView). z.failures) (sym o.0) i) (ap (λ (z : VerifierView). z.told) (sym o.0) i)), o.1);
  again = λ u id failures told s verifier letters begins o.
      let state = state_of_record u id s verifier.state begins o.1 in (
        o.0 ∙ (λ i. view_of u id (state i) (down s) (ap (λ (z : VerifierView). z.failures) (sym o.0) i) (ap (λ (z : VerifierView). z.told) (sym o.0) i)),
        o.2 ∙ ap (λ (z : VerifierState). (restarted u id z).letters) state,
      );
}

pub reopened_is_done : ReopenedIsDone
reopened_is_done u events id saved old verifier letters at stopped o =
    let fresh = record_fresh u events id saved (ap (option_and_then recorded) at) in
    let begins = (record_begins u events id saved (ap (option_and_then recorded) at)).begins in
    let read : Opens u id (Some (record_text u id (down saved))) old.failures old.told verifier letters = subst (λ kept. Opens u id kept old.failures old.told verifier letters) stopped.3 o in
    subst (λ (z : VerifierState). IsIn u id (Up (restarted u id z).state (saved_after z (restarted u id z))) verifier × (letters ≡ (restarted u id z).letters)) (sym fresh) (opened_is_done.again u id old.failures old.told saved verifier letters begins read)

-- what stands at a place is put there again
set_same : (xs : List VerifierSlot) (v : ℕ) (s : VerifierSlot) → slice_get xs v ≡ Some s → slice_set xs v s ≡ xs
set_same [] v s e = absurd (cc)
set_same (x ∷ xs) zero s e = let same : x ≡ s = cc in ap (λ (y : VerifierSlot). y ∷ xs) (sym same)
set_same (x ∷ xs) (suc v) s e = ap (λ (ys : List VerifierSlot). x ∷ ys) (set_same xs v s e)

pub refused_open_is_stopped : RefusedOpenIsStopped
refused_open_is_stopped u id m New before after at kept same = (same ∙ kept, ap (opened u m id StopsBefore) at)
refused_open_is_stopped u id m (Up s saved) before after at kept same = absurd kept
refused_open_is_stopped u id m (Stopped saved) before after at kept same = (
  same ∙ kept,
  ap (opened u m id StopsBefore) at ∙ ap (λ (vs : List VerifierSlot). record m { verifiers = vs }) (set_same m.verifiers id (Stopped saved) at),
)
