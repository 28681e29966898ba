-- No text of a process is a prefix of another one's.
use Rattle.std.proofs.Common.{refl}
use Rattle.std.specs.Int.{w8}
use Rattle.wire.specs.Record.{IsPrefixFree}
use Rattle.wire.specs.NumberLaws.{num_prefix_free, wide8}
use Rattle.wire.specs.FieldLaws.{list_prefix_free}
use Rattle.wire.specs.SessionLaws.{sessions_prefix_free}
use Rattle.wire.specs.RowLaws.{followed, made_of, marked}
use Rattle.states.specs.HeadProofs.{head_prefix_free}
use Rattle.process_text.specs.Rows.{executor_row_text, verifier_row_text, proxy_row_text}
use Rattle.process_text.specs.RowLaws.{executor_row_prefix_free, verifier_row_prefix_free, proxy_row_prefix_free}
use Rattle.process_text.specs.Text.{process_fields_text, process_text}

pub fields_prefix_free : IsPrefixFree process_fields_text
fields_prefix_free = made_of
    (followed (followed (followed (followed (followed (num_prefix_free w8 wide8) head_prefix_free) sessions_prefix_free)
    (list_prefix_free executor_row_text executor_row_prefix_free))
    (list_prefix_free verifier_row_text verifier_row_prefix_free))
    (list_prefix_free proxy_row_text proxy_row_prefix_free))
    process_fields_text
    (λ t. (((((t.u, t.head), t.sessions), t.executors), t.verifiers), t.proxies))
    (λ row. record { u = row.0.0.0.0.0; head = row.0.0.0.0.1; sessions = row.0.0.0.1; executors = row.0.0.1; verifiers = row.0.1; proxies = row.1 })
    (λ t. refl)
    (λ t. refl)

pub process_prefix_free : IsPrefixFree process_text
unfolding process_text
process_prefix_free = marked 1 (marked 80 fields_prefix_free)
