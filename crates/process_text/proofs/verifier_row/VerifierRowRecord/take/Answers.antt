use Rattle.std.proofs.Common.{refl}
use Rattle.std.proofs.lemmas.Result.{err_from_is_err_and}
use Rattle.wire.specs.Record.{Always}
use Rattle.wire.proofs.Rows.{no_row, some_fits}
use Rattle.process_text.specs.Rows.{verifier_row_text}
use Rattle.process_text.proofs.verifier_row.VerifierRowRecord.take.Goals as goal

pub returns-in_err-stored : goal.returns-in_err-stored
returns-in_err-stored c =
    let p = err_from_is_err_and c.from_residual.result c.from_residual.ensures.1 in
    rw (p.1, p.2) (no_row Always verifier_row_text _ _ (λ v. ((v.stored, v.failures), record { is_set = v.fails_next })) c.args.bytes.now
    (λ v f. ((some_fits (λ x. tt) v.stored, tt), tt)) (λ v. refl) c.in_err-stored.field-0.0 c.in_err-stored.ensures)
