use Rattle.std.proofs.Common.{refl}
use Rattle.std.proofs.lemmas.Result.{err_from_is_err_and}
use Rattle.wire.specs.Record.{Always}
use Rattle.wire.proofs.Rows.{no_row, some_fits}
use Rattle.process_text.specs.Rows.{proxy_row_text}
use Rattle.process_text.proofs.proxy_row.ProxyRowRecord.take.Goals as goal

pub returns-in_err-client : goal.returns-in_err-client
returns-in_err-client c =
    let p = err_from_is_err_and c.from_residual.result c.from_residual.ensures.1 in
    rw (p.1, p.2) (no_row Always proxy_row_text _ _ (λ v. ((v.client, v.last), v.asked)) c.args.bytes.now
    (λ v f. ((tt, tt), some_fits (λ x. tt) v.asked)) (λ v. refl) c.in_err-client.field-0.0 c.in_err-client.ensures)
