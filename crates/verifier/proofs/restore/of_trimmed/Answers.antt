use Rattle.std.proofs.lemmas.Result.{err_from_is_err_and, IfErr-weaker}
use Rattle.wire.proofs.Values.{Refused-weaker}
use Rattle.verifier.proofs.RowLemmas.{none_trimmed, zero_trimmed, other_trimmed}
use Rattle.verifier.proofs.restore.of_trimmed.Goals as goal

pub returns-in_err-head-clause-err : goal.returns-in_err-head-clause-err
returns-in_err-head-clause-err c =
    let p = err_from_is_err_and c.from_residual.result c.from_residual.ensures.1 in
    rw (p.1, p.2) (Refused-weaker c.in_err-head.field-0.0 (none_trimmed c.args.u c.args.id c.args.bytes.now) c.in_err-head.ensures)

pub returns-then-start-eq0-clause-err : goal.returns-then-start-eq0-clause-err
returns-then-start-eq0-clause-err c s r =
    zero_trimmed c.args.u c.args.id c.args.bytes.now c.in_ok-head.head c.in_ok-head.start c.in_ok-head.decrees c.in_ok-head.ensures.1 c.if-start-eq0.true s r

pub returns-clause-err : goal.returns-clause-err
returns-clause-err c =
    let other = rw c.into_vec.ensures at c.of_row.ensures.err in
    IfErr-weaker c.of_row.result _ _ (λ fault. Refused-weaker fault (other_trimmed c.args.u c.args.id c.args.bytes.now c.in_ok-head.head c.in_ok-head.start c.in_ok-head.decrees c.in_ok-head.ensures.1)) other
