use Rattle.std.proofs.lemmas.Result.{err_from_is_err_and}
use Rattle.letters.proofs.BodyLemmas.{no_reply}
use Rattle.letters.proofs.body.take_reply.Goals as goal

pub returns-in_err-row : goal.returns-in_err-row
returns-in_err-row c =
    let p = err_from_is_err_and c.from_residual.result c.from_residual.ensures.1 in
    rw (p.1, p.2) (no_reply c.args.bytes.now c.in_err-row.field-0.0 c.in_err-row.ensures)
