-- What is stored of a process, and the record that it stands for.
use Rattle.std.specs.Prelude.{◌≡◌, ◌⊎◌, ℕ, ◌<◌, ◌+◌, ◌*◌, ◌^◌, List, length, map, Option, None, Some, Contains}
use Rattle.std.specs.List.{AllZip}
use Rattle.std.specs.Option.{option_map}
use Rattle.keeper.specs.Kept.{Kept}
use Rattle.client.specs.declared.asked.Asked.{Asked}
use Rattle.proxies.specs.Proxy.{ProxyView}
use Rattle.rollback.specs.Chain.{alone_text}
use Rattle.exec_lines.specs.Record.{saved_text}
use Rattle.states.specs.declared.head.Head.{Head}
use Rattle.states.specs.State.{StateView, IsState, initial_state}
use Rattle.states.specs.StateRecord.{head_of_state}
use Rattle.process_text.specs.declared.executor_row.PlainRecord.{PlainRecord}
use Rattle.process_text.specs.declared.executor_row.StoredRecord.{StoredRecord}
use Rattle.process_text.specs.declared.executor_row.StoredRecord.TheVariants.{Nothing, Plain, Whole}
use Rattle.process_text.specs.declared.executor_row.ExecutorRow.{ExecutorRow}
use Rattle.process_text.specs.declared.verifier_row.VerifierRow.{VerifierRow}
use Rattle.process_text.specs.declared.proxy_row.StoredRequest.{StoredRequest}
use Rattle.process_text.specs.declared.proxy_row.ProxyRow.{ProxyRow}
use Rattle.process_text.specs.declared.process_text.ProcessText.{ProcessText}
use Rattle.process_text.specs.Text.{IsProcessText}
use Rattle.process_text.specs.StateOf.{IsStateOf}
use Rattle.ensemble.specs.Kept.{ProcessView}

-- ---- what rows stand for

abbrev pub asked_of_row : StoredRequest → Asked
asked_of_row a = record { request = a.request; quiet = a.quiet }

abbrev pub proxy_of_row : ProxyRow → ProxyView
proxy_of_row row = record { client = row.client; last = row.last; asked = option_map asked_of_row row.asked }

abbrev pub verifier_of_row : VerifierRow → Kept
verifier_of_row row = record { saved = row.stored; failures = row.failures; fails_next = row.fails_next }

-- the record of an executor of this state without tentative states
abbrev pub plain_record : PlainRecord → StateView → List ℕ
plain_record plain s = saved_text plain.u plain.id plain.known plain.standing (alone_text s)

-- the record of an executor, if the state beside the text is this one
abbrev pub stored_record : StateView → StoredRecord → Option (List ℕ)
stored_record s Nothing = None
stored_record s (Plain plain) = Some (plain_record plain s)
stored_record s (Whole bytes) = Some bytes

abbrev pub executor_of_row : StateView → ExecutorRow → Kept
executor_of_row s row = record { saved = stored_record s row.stored; failures = row.failures; fails_next = row.fails_next }

-- the record of a process, of this text and this state
abbrev pub restored_process : ProcessText → StateView → ProcessView
restored_process t s = record { u = t.u; proxies = map proxy_of_row t.proxies; executors = map (executor_of_row s) t.executors; verifiers = map verifier_of_row t.verifiers }

-- ---- what is stored of a record

-- The record is of a state with this head, without tentative states.
pub record IsPlainOf (head : Head) (plain : PlainRecord) (bytes : List ℕ) : Type 0 where
  pub state : StateView
  pub is_state : IsState state
  pub has_head : head_of_state state ≡ head
  pub text : bytes ≡ plain_record plain state

-- what is stored of a record, beside a state with this head
abbrev pub IsStoredRecord : Head → StoredRecord → List ℕ → Type 0
IsStoredRecord head Nothing bytes = ⊥
IsStoredRecord head (Plain plain) bytes = IsPlainOf head plain bytes
IsStoredRecord head (Whole whole) bytes = bytes ≡ whole

-- the same of an executor's record, if it has one
abbrev pub IsStoredAs : Head → StoredRecord → Option (List ℕ) → Type 0
IsStoredAs head stored None = stored ≡ Nothing
IsStoredAs head stored (Some bytes) = IsStoredRecord head stored bytes

pub record IsExecutorRow (head : Head) (row : ExecutorRow) (kept : Kept) : Type 0 where
  pub stored : IsStoredAs head row.stored kept.saved
  pub failures : kept.failures ≡ row.failures
  pub fails_next : kept.fails_next ≡ row.fails_next

-- The rows of the text are those of the record.
pub record HasRowsOf (t : ProcessText) (r : ProcessView) : Type 0 where
  pub u : r.u ≡ t.u
  pub proxies : r.proxies ≡ map proxy_of_row t.proxies
  pub executors : AllZip (IsExecutorRow t.head) t.executors r.executors
  pub verifiers : r.verifiers ≡ map verifier_of_row t.verifiers

-- The record is stored as this text and this state. An executor that is stored by some fields alone has the record of a state
-- with the head of this one, which is this one if digests tell states apart.
pub record IsStoredOf (t : ProcessText) (s : StateView) (r : ProcessView) : Type 0 where
  pub text : IsProcessText t
  pub state : IsStateOf t s
  pub rows : HasRowsOf t r

-- ---- which state is stored

-- The record of the executor is of this state, without tentative states.
pub record IsAlone (kept : Kept) (s : StateView) : Type 0 where
  pub plain : PlainRecord
  pub text : kept.saved ≡ Some (plain_record plain s)

pub record IsAloneIn (executors : List Kept) (s : StateView) : Type 0 where
  pub kept : Kept
  pub there : Contains executors kept
  pub alone : IsAlone kept s

-- the state is the first one, or an executor's
abbrev pub IsExecutorState : List Kept → StateView → Type 0
IsExecutorState executors s = (s ≡ initial_state) ⊎ IsAloneIn executors s

-- The record is of 2u + 1 executors and as many verifiers, and of proxies that have numbers.
pub record HasMembers (r : ProcessView) : Type 0 where
  pub executors : length r.executors ≡ 2 * r.u + 1
  pub verifiers : length r.verifiers ≡ 2 * r.u + 1
  pub clients : length r.proxies < 2 ^ 16
