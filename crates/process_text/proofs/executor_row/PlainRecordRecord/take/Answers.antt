use Rattle.std.proofs.Common.{refl}
use Rattle.std.proofs.lemmas.Result.{err_from_is_err_and}
use Rattle.wire.specs.Record.{Always}
use Rattle.wire.proofs.Rows.{no_row}
use Rattle.process_text.specs.Rows.{plain_text}
use Rattle.process_text.proofs.executor_row.PlainRecordRecord.take.Goals as goal

pub returns-in_err-u : goal.returns-in_err-u
returns-in_err-u c =
    let p = err_from_is_err_and c.from_residual.result c.from_residual.ensures.1 in
    rw (p.1, p.2) (no_row Always plain_text _ _ (λ v. (((v.u, v.id), v.known), v.standing)) c.args.bytes.now
    (λ v f. (((tt, tt), tt), tt)) (λ v. refl) c.in_err-u.field-0.0 c.in_err-u.ensures)
