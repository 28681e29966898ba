-- The text of a process.
use Rattle.std.specs.Prelude.{◌≡◌, ℕ, suc, ◌<◌, ◌+◌, ◌*◌, ◌^◌, List, ◌∷◌, ◌++◌, length, Some, slice_get}
use Rattle.std.specs.Int.{w8}
use Rattle.wire.specs.Number.{num}
use Rattle.wire.specs.Field.{list_text}
use Rattle.wire.specs.Session.{sessions_text, SessionsFit}
use Rattle.states.specs.StateRecord.{head_text}
use Rattle.process_text.specs.declared.proxy_row.ProxyRow.{ProxyRow}
use Rattle.process_text.specs.declared.process_text.ProcessText.{ProcessText}
use Rattle.process_text.specs.Rows.{executor_row_text, verifier_row_text, proxy_row_text}

-- the rows are those of clients 1, 2 and so on
abbrev pub AreNumberedRows : List ProxyRow → Type 0
AreNumberedRows rows = (i : ℕ) (row : ProxyRow) → slice_get rows i ≡ Some row → row.client ≡ suc i

-- What is stored is of 2u + 1 executors and as many verifiers, and of proxies that are numbered from 1.
pub record IsProcessText (t : ProcessText) : Type 0 where
  pub few : t.u < 4
  pub sessions : SessionsFit t.sessions
  pub executors : length t.executors ≡ 2 * t.u + 1
  pub verifiers : length t.verifiers ≡ 2 * t.u + 1
  pub clients : length t.proxies < 2 ^ 16
  pub numbered : AreNumberedRows t.proxies

-- all of it behind its marks
abbrev pub process_fields_text : ProcessText → List ℕ
process_fields_text t = ((((num w8 t.u ++ head_text t.head) ++ sessions_text t.sessions) ++ list_text executor_row_text t.executors) ++ list_text verifier_row_text t.verifiers) ++ list_text proxy_row_text t.proxies

-- the version, the kind, and all else
unfoldable pub process_text : ProcessText → List ℕ
process_text t = 1 ∷ 80 ∷ process_fields_text t
