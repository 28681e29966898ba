use Rattle.std.proofs.Common.{refl}
use Rattle.std.proofs.lemmas.Result.{err_from_is_err_and}
use Rattle.wire.specs.Record.{Always}
use Rattle.wire.proofs.Rows.{no_row}
use Rattle.process_text.specs.Rows.{outstanding_text}
use Rattle.process_text.proofs.proxy_row.StoredRequestRecord.take.Goals as goal

pub returns-in_err-request : goal.returns-in_err-request
returns-in_err-request c =
    let p = err_from_is_err_and c.from_residual.result c.from_residual.ensures.1 in
    rw (p.1, p.2) (no_row Always outstanding_text _ _ (λ v. (v.request, record { is_set = v.quiet })) c.args.bytes.now
    (λ v f. (tt, tt)) (λ v. refl) c.in_err-request.field-0.0 c.in_err-request.ensures)
