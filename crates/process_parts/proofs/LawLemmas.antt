-- What is restored is what was stored.
use Rattle.std.proofs.Common.{◌≡◌, inr, ℕ, suc, ◌∙◌, List, [], ◌∷◌, map, Option, None, Some, refl, ap, sym, subst, arith}
use Rattle.std.specs.Prelude.{Contains}
use Rattle.std.specs.List.{AllZip}
use Rattle.keeper.specs.Kept.{Kept}
use Rattle.states.specs.declared.head.Head.{Head}
use Rattle.states.specs.State.{StateView, IsState}
use Rattle.states.specs.StateRecord.{head_of_state}
use Rattle.process_text.specs.declared.executor_row.PlainRecord.{PlainRecord}
use Rattle.process_text.specs.declared.executor_row.StoredRecord.{StoredRecord}
use Rattle.process_text.specs.declared.executor_row.StoredRecord.TheVariants.{Nothing, Plain, Whole}
use Rattle.process_text.specs.declared.executor_row.ExecutorRow.{ExecutorRow}
use Rattle.process_text.specs.declared.process_text.ProcessText.{ProcessText}
use Rattle.process_text.specs.Text.{IsProcessText}
use Rattle.process_text.specs.StateOf.{IsStateOf}
use Rattle.ensemble.specs.Kept.{ProcessView}
use Rattle.process_parts.specs.Parts.{plain_record, stored_record, executor_of_row, restored_process, IsStoredAs, IsExecutorRow, IsExecutorState, IsStoredOf}
use Rattle.process_parts.specs.Laws.{HeadsTellStates, RestoredIsStored, StoredIsRestored, StoredIsOneRecord}

-- ---- what is restored is stored

record_stored : (s : StateView) (head : Head) → IsState s → head_of_state s ≡ head → (stored : StoredRecord) → IsStoredAs head stored (stored_record s stored)
record_stored s head is has Nothing = refl
record_stored s head is has (Plain plain) = record { state = s; is_state = is; has_head = has; text = refl }
record_stored s head is has (Whole bytes) = refl

executors_stored : (s : StateView) (head : Head) → IsState s → head_of_state s ≡ head → (rows : List ExecutorRow) → AllZip (IsExecutorRow head) rows (map (executor_of_row s) rows)
executors_stored s head is has [] = tt
executors_stored s head is has (row ∷ rows) = (record { stored = record_stored s head is has row.stored; failures = refl; fails_next = refl }, executors_stored s head is has rows)

pub restored_is_stored : RestoredIsStored
restored_is_stored t s text state = record {
  text = text;
  state = state;
  rows = record { u = refl; proxies = refl; executors = executors_stored s t.head state.state state.head t.executors; verifiers = refl };
}

-- so is a record that is what is restored
pub same_is_stored : (t : ProcessText) (s : StateView) (r : ProcessView) → IsProcessText t → r ≡ restored_process t s → IsStateOf t s → IsStoredOf t s r
same_is_stored t s r text same state = subst (IsStoredOf t s) (sym same) (restored_is_stored t s text state)

-- ---- what is stored is restored

-- a state with the head of this one, of which this is the record, is this one
abbrev TellsOf : StateView → Option (List ℕ) → Type 0
TellsOf s saved = (plain : PlainRecord) (other : StateView) → saved ≡ Some (plain_record plain other) → IsState other → head_of_state other ≡ head_of_state s → other ≡ s

same_record : (s : StateView) (head : Head) (stored : StoredRecord) (saved : Option (List ℕ)) → head_of_state s ≡ head → TellsOf s saved → IsStoredAs head stored saved → stored_record s stored ≡ saved
same_record s head stored None has tells is = ap (stored_record s) is
same_record s head Nothing (Some bytes) has tells is = absurd is
same_record s head (Plain plain) (Some bytes) has tells is =
    let one : is.state ≡ s = tells plain is.state (ap Some is.text) is.is_state (is.has_head ∙ sym has) in
    ap (λ (other : StateView). Some (plain_record plain other)) (sym one) ∙ ap Some (sym is.text)
same_record s head (Whole whole) (Some bytes) has tells is = ap Some (sym is)

same_executor : (s : StateView) (head : Head) (row : ExecutorRow) (k : Kept) → head_of_state s ≡ head → TellsOf s k.saved → IsExecutorRow head row k → executor_of_row s row ≡ k
same_executor s head row k has tells is =
    let saved : stored_record s row.stored ≡ k.saved = same_record s head row.stored k.saved has tells is.stored in
    let failures : row.failures ≡ k.failures = sym is.failures in
    let fails_next : row.fails_next ≡ k.fails_next = sym is.fails_next in
    λ i. record { saved = saved i; failures = failures i; fails_next = fails_next i }

in_later : {X : Type 0} (x y : X) (xs : List X) → Contains xs y → Contains (x ∷ xs) y
in_later x y xs (k, lt, e) = (suc k, omega (arith, lt), e)

same_executors : (s : StateView) (head : Head) (rows : List ExecutorRow) (ks : List Kept) → head_of_state s ≡ head → ((k : Kept) → Contains ks k → TellsOf s k.saved) → AllZip (IsExecutorRow head) rows ks → map (executor_of_row s) rows ≡ ks
same_executors s head [] [] has tells are = refl
same_executors s head [] (k ∷ ks) has tells are = absurd are
same_executors s head (row ∷ rows) [] has tells are = absurd are
same_executors s head (row ∷ rows) (k ∷ ks) has tells are =
    let first : executor_of_row s row ≡ k = same_executor s head row k has (tells k (0, omega arith, refl)) are.0 in
    let others : map (executor_of_row s) rows ≡ ks = same_executors s head rows ks has (λ other there. tells other (in_later k other ks there)) are.1 in
    λ i. first i ∷ others i

-- the states of the executors are distinguished, and this is one of them
tells_of : (s : StateView) (ks : List Kept) → IsState s → IsExecutorState ks s → HeadsTellStates ks → (k : Kept) → Contains ks k → TellsOf s k.saved
tells_of s ks is among tell k there plain other text state head = tell other s state is (inr (record { kept = k; there = there; alone = record { plain = plain; text = text } })) among head

pub stored_is_restored : StoredIsRestored
stored_is_restored t s r is among tell =
    let executors : map (executor_of_row s) t.executors ≡ r.executors =
    same_executors s t.head t.executors r.executors is.state.head (tells_of s r.executors is.state.state among tell) is.rows.executors in
    let u : t.u ≡ r.u = sym is.rows.u in
    let proxies = sym is.rows.proxies in
    let verifiers = sym is.rows.verifiers in
    λ i. record { u = u i; proxies = proxies i; executors = executors i; verifiers = verifiers i }

pub stored_is_one : StoredIsOneRecord
stored_is_one t s a b stored_a among_a tell_a stored_b among_b tell_b = sym (stored_is_restored t s a stored_a among_a tell_a) ∙ stored_is_restored t s b stored_b among_b tell_b
