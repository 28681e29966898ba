use Rattle.std.proofs.lemmas.Result.{err_from_is_err_and}
use Rattle.letters.proofs.BallotLemmas.{no_promise}
use Rattle.letters.proofs.ballot.take_promise.Goals as goal

pub returns-in_err-row : goal.returns-in_err-row
returns-in_err-row c =
    let p = err_from_is_err_and c.from_residual.result c.from_residual.ensures.1 in
    rw (p.1, p.2) (no_promise c.args.bytes.now c.in_err-row.field-0.0 c.in_err-row.ensures)
