use Rattle.std.proofs.Common.{refl}
use Rattle.std.proofs.lemmas.Result.{err_from_is_err_and}
use Rattle.wire.specs.Record.{Always}
use Rattle.wire.specs.Reply.{found_text}
use Rattle.wire.proofs.Rows.{no_row, some_fits}
use Rattle.wire.proofs.reply.FoundRecord.take.Goals as goal

pub returns-in_err-row : goal.returns-in_err-row
returns-in_err-row c =
    let p = err_from_is_err_and c.from_residual.result c.from_residual.ensures.1 in
    rw (p.1, p.2) (no_row Always found_text _ _ (λ f. (((f.key, f.flags), f.block), f.unique)) c.args.bytes.now
    (λ found f. (((tt, tt), f), some_fits (λ n. tt) found.unique)) (λ found. refl) c.in_err-row.field-0.0 c.in_err-row.ensures)
