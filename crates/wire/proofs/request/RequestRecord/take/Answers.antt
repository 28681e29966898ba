use Rattle.std.proofs.Common.{arith, refl, ap}
use Rattle.std.proofs.lemmas.Result.{err_from_is_err_and}
use Rattle.wire.specs.Record.{Always}
use Rattle.wire.specs.Command.{request_text}
use Rattle.wire.specs.CommandLaws.{request_row_free}
use Rattle.wire.proofs.Rows.{no_row, no_value}
use Rattle.wire.proofs.request.RequestRecord.take.Goals as goal

pub returns-in_err-row : goal.returns-in_err-row
returns-in_err-row c =
    let p = err_from_is_err_and c.from_residual.result c.from_residual.ensures.1 in
    rw (p.1, p.2) (no_row Always request_text _ _ (λ r. ((r.client, r.number), r.command)) c.args.bytes.now
    (λ r f. ((tt, tt), tt)) (λ r. refl) c.in_err-row.field-0.0 c.in_err-row.ensures)

pub returns-then-client-eq0 : goal.returns-then-client-eq0
returns-then-client-eq0 c =
    no_value request_row_free request_text (λ r. ((r.client, r.number), r.command)) (λ r. refl) c.args.bytes.now c.in_ok-row.row c.in_ok-row.rest.now c.in_ok-row.ensures.1
    (λ r e. omega (arith, r.is_client, ap (λ x. x.0.0) e))

pub returns-then-number-eq0 : goal.returns-then-number-eq0
returns-then-number-eq0 c =
    no_value request_row_free request_text (λ r. ((r.client, r.number), r.command)) (λ r. refl) c.args.bytes.now c.in_ok-row.row c.in_ok-row.rest.now c.in_ok-row.ensures.1
    (λ r e. omega (arith, r.is_numbered, ap (λ x. x.0.1) e))
