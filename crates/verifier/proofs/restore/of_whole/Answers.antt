use Rattle.std.proofs.lemmas.Result.{err_from_is_err_and, IfErr-weaker}
use Rattle.wire.proofs.Values.{Refused-weaker}
use Rattle.verifier.proofs.RowLemmas.{none_whole, other_whole}
use Rattle.verifier.proofs.restore.of_whole.Goals as goal

pub returns-in_err-head-clause-err : goal.returns-in_err-head-clause-err
returns-in_err-head-clause-err c =
    let p = err_from_is_err_and c.from_residual.result c.from_residual.ensures.1 in
    rw (p.1, p.2) (Refused-weaker c.in_err-head.field-0.0 (none_whole c.args.u c.args.id c.args.bytes.now) c.in_err-head.ensures)

pub returns-clause-err : goal.returns-clause-err
returns-clause-err c =
    let other = rw (c.into_vec.ensures, c.first.ensures) at c.of_row.ensures.err in
    IfErr-weaker c.of_row.result _ _ (λ fault. Refused-weaker fault (other_whole c.args.u c.args.id c.args.bytes.now c.in_ok-head.head c.in_ok-head.decrees c.in_ok-head.ensures.1)) other
