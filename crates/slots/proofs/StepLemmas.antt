-- What an input and a restart lead to, by what a replica's calls say.
use Rattle.std.proofs.Common.{◌≡◌, ◌<◌, ◌≤◌, ℕ, Bool, true, false, List, [], Option, None, Some, Result, Ok, Err, refl, sym, ap, ◌∙◌, subst, inl, inr}
use Rattle.std.specs.Prelude.{◌&&◌, IsTrue, IsOk, IsErr, not, is_none}
use Rattle.keeper.specs.Kept.{Kept, CountsFailures}
use Rattle.decrees.specs.declared.ballot.Ballot.{Ballot}
use Rattle.decrees.specs.declared.node.Letter.{Letter}
use Rattle.exec_lines.specs.declared.body.Body.{Body}
use Rattle.exec_lines.specs.declared.input.Input as of_executor
use Rattle.exec_lines.specs.declared.input.Input.TheVariants as executor_input
use Rattle.exec_lines.specs.State.{ExecutorState, ExecutorOutcome, unchanged}
use Rattle.exec_lines.specs.Lines.{may_adopt}
use Rattle.exec_lines.specs.Step.{fits_a_line, is_refused}
use Rattle.exec_node.specs.Laws.{UnfitInputStays}
use Rattle.exec_node.specs.Executor.{ExecutorView, executor_outcome, executor_handled, executor_record_after, OpensExecutor, IsToBeSaved}
use Rattle.verifier.specs.declared.input.Input as of_verifier
use Rattle.verifier.specs.Step.{fits_line}
use Rattle.verifier.specs.Verifier.{VerifierView, outcome, handled, Opens}
use Rattle.slots.specs.declared.slot.Slot.TheVariants.{Up, Down}
use Rattle.slots.specs.Slots.{verifier_kept, executor_kept, VerifierSettles, ExecutorSettles, VerifierReopens, ExecutorReopens}

not_both : (a b : Bool) → (IsTrue a → IsTrue b → ⊥) → IsTrue (not (a && b))
not_both true true h = absurd (h refl refl)
not_both true false h = refl
not_both false b h = refl

-- a step that was done was not to fail
pub ok_is_untold : {T E : Type 0} (r : Result T E) (x : T) (told saves : Bool) → r ≡ Ok x → (IsTrue told → IsTrue saves → IsErr r) → IsTrue (not (told && saves))
ok_is_untold {T} {E} r x told saves is fails = not_both told saves (λ t s. cc (subst (λ (y : Result T E). IsErr y) is (fails t s)))

-- only an input that fits a line meets an error
pub error_fits : {T E : Type 0} (r : Result T E) (e : E) (fits : Bool) → r ≡ Err e → (IsTrue (not fits) → IsOk r) → IsTrue fits
error_fits {T} {E} r e true is ok = refl
error_fits {T} {E} r e false is ok = absurd (cc (subst (λ (y : Result T E). IsOk y) is (ok refl)))

pub fault_fits : {T E : Type 0} (r : Result T E) (e : E) (fits refused : Bool) → r ≡ Err e → (IsTrue (not fits) → IsTrue (not refused) → IsOk r) → (IsTrue refused → ⊥) → IsTrue fits
fault_fits {T} {E} r e true refused is ok adopted = refl
fault_fits {T} {E} r e false true is ok adopted = absurd (adopted refl)
fault_fits {T} {E} r e false false is ok adopted = absurd (cc (subst (λ (y : Result T E). IsOk y) is (ok refl refl)))

pub kept_is : (k : Kept) (saved : Option (List ℕ)) (failures : ℕ) (told : Bool) → k.saved ≡ saved → k.failures ≡ failures → k.fails_next ≡ told
    → k ≡ record { saved = saved; failures = failures; fails_next = told }
kept_is k saved failures told a b c = λ i. record { saved = a i; failures = b i; fails_next = c i }

-- ---- a tentative state that is refused

is_false : (b : Bool) → IsTrue (not b) → b ≡ false
is_false true p = absurd (cc p)
is_false false p = refl

refused_is_unfit : (u id : ℕ) (s : ExecutorState) (x : of_executor.Input) → IsTrue (is_refused s x) → fits_a_line u id s x ≡ false
refused_is_unfit u id s (executor_input.Letter l) refused = absurd (cc refused)
refused_is_unfit u id s (executor_input.Cut moment) refused = absurd (cc refused)
refused_is_unfit u id s (executor_input.Step place) refused = absurd (cc refused)
refused_is_unfit u id s executor_input.Finish refused = absurd (cc refused)
refused_is_unfit u id s (executor_input.Adopt t) refused = is_false (may_adopt s t) refused

abbrev done_with : ExecutorView → ExecutorOutcome → ExecutorView
done_with e o = record e { state = o.state; saved = executor_record_after e o }

-- is a step that does nothing
pub refused_settles : (e now : ExecutorView) (x : of_executor.Input) → UnfitInputStays → IsTrue (is_refused e.state x) → now ≡ e → ExecutorSettles (Up e) x (Up now) []
refused_settles e now x stays refused same =
    let o : executor_outcome e x ≡ unchanged e.state = stays e.u e.id e.state x (refused_is_unfit e.u e.id e.state x refused) in
    inl (
      subst (λ (y : ExecutorOutcome). IsTrue (not (e.told && y.saves))) (sym o) (not_both e.told false (λ t s. cc s)),
      ap Up (same ∙ ap (done_with e) (sym o)),
      ap (λ (y : ExecutorOutcome). y.letters) (sym o),
    )

-- ---- the relations of slots

pub verifier_settles : (v now : VerifierView) (x : of_verifier.Input) (letters : List (Letter Ballot)) → IsTrue (not (v.told && (outcome v x).saves)) → now ≡ handled v x → letters ≡ (outcome v x).letters
    → VerifierSettles (Up v) x (Up now) letters
verifier_settles v now x letters untold does sent = inl (untold, ap Up does, sent)

pub verifier_stops : (v now : VerifierView) (x : of_verifier.Input) → IsTrue (fits_line v.state x) → now.saved ≡ v.saved → CountsFailures v.failures v.told now.failures now.told
    → VerifierSettles (Up v) x (Down (verifier_kept now)) []
verifier_stops v now x fits same failures = inr (fits, (verifier_kept now, refl, refl, record { record_is = inl same; failures = failures }))

pub executor_settles : (e now : ExecutorView) (x : of_executor.Input) (letters : List (Letter Body)) → IsTrue (not (e.told && (executor_outcome e x).saves)) → now ≡ executor_handled e x → letters ≡ (executor_outcome e x).letters
    → ExecutorSettles (Up e) x (Up now) letters
executor_settles e now x letters untold does sent = inl (untold, ap Up does, sent)

pub executor_stops : (e now : ExecutorView) (x : of_executor.Input) → IsTrue (fits_a_line e.u e.id e.state x) → now.saved ≡ e.saved → CountsFailures e.failures e.told now.failures now.told
    → ExecutorSettles (Up e) x (Down (executor_kept now)) []
executor_stops e now x fits same failures = inr (fits, (executor_kept now, refl, refl, record { record_is = inl same; failures = failures }))

new_is_untold : (saved : Option (List ℕ)) (told : Bool) → (saved ≡ None → IsTrue told → ⊥) → IsTrue (not (told && is_none saved))
new_is_untold None told h = not_both told true (λ t s. h refl t)
new_is_untold (Some bytes) told h = not_both told false (λ t s. cc s)

pub verifier_opens : {T E : Type 0} (u id : ℕ) (kept : Kept) (v : VerifierView) (letters : List (Letter Ballot)) (r : Result T E) (x : T) → r ≡ Ok x
    → (kept.saved ≡ None → IsTrue kept.fails_next → IsErr r) → Opens u id kept.saved kept.failures kept.fails_next v letters → VerifierReopens u id (Down kept) (Up v) letters
verifier_opens {T} {E} u id kept v letters r x is fails opens =
    inl (new_is_untold kept.saved kept.fails_next (λ n t. cc (subst (λ (y : Result T E). IsErr y) is (fails n t))), (v, refl, opens))

pub verifier_refused : (u id : ℕ) (kept left : Kept) → left.saved ≡ kept.saved → CountsFailures kept.failures kept.fails_next left.failures left.fails_next
    → VerifierReopens u id (Down kept) (Down left) []
verifier_refused u id kept left same failures = inr (left, refl, refl, record { record_is = inl same; failures = failures })

pub verifier_opened_up : (u id : ℕ) (saved : Option (List ℕ)) (failures : ℕ) (told : Bool) (v : VerifierView) (letters : List (Letter Ballot)) → Opens u id saved failures told v letters → IsTrue v.up
verifier_opened_up u id None failures told v letters opens = ap (λ (y : VerifierView). y.up) opens.0
verifier_opened_up u id (Some bytes) failures told v letters opens = ap (λ (y : VerifierView). y.up) opens.0

pub executor_opens : {T E : Type 0} (u id : ℕ) (kept : Kept) (e : ExecutorView) (letters : List (Letter Body)) (r : Result T E) (x : T) → r ≡ Ok x
    → (IsToBeSaved u id kept.saved → IsTrue kept.fails_next → IsErr r) → OpensExecutor u id kept.saved kept.failures kept.fails_next e letters → ExecutorReopens u id (Down kept) (Up e) letters
executor_opens {T} {E} u id kept e letters r x is fails opens =
    inl (new_is_untold kept.saved kept.fails_next (λ n t. cc (subst (λ (y : Result T E). IsErr y) is (fails (subst (IsToBeSaved u id) (sym n) tt) t))), (e, refl, opens))

pub executor_refused : (u id : ℕ) (kept left : Kept) → left.saved ≡ kept.saved → CountsFailures kept.failures kept.fails_next left.failures left.fails_next
    → ExecutorReopens u id (Down kept) (Down left) []
executor_refused u id kept left same failures = inr (left, refl, refl, record { record_is = inl same; failures = failures })

pub executor_opened_up : (u id : ℕ) (saved : Option (List ℕ)) (failures : ℕ) (told : Bool) (e : ExecutorView) (letters : List (Letter Body)) → OpensExecutor u id saved failures told e letters → IsTrue e.up
executor_opened_up u id None failures told e letters opens = ap (λ (y : ExecutorView). y.up) opens.0
executor_opened_up u id (Some bytes) failures told e letters opens = ap (λ (y : ExecutorView). y.up) opens.0
