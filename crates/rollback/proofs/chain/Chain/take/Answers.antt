use Rattle.std.proofs.Common.{arith}
use Rattle.std.proofs.lemmas.Result.{err_from_is_err_and}
use Rattle.rollback.proofs.RecordLemmas.{no_state, no_count, too_many, chain_taken}
use Rattle.rollback.proofs.chain.Chain.take.Goals as goal

pub returns-in_err-committed : goal.returns-in_err-committed
returns-in_err-committed c =
    let p = err_from_is_err_and c.from_residual.result c.from_residual.ensures.1 in
    rw (p.1, p.2) (no_state c.args.version c.args.bytes.now c.in_err-committed.field-0.0 c.in_err-committed.ensures)

pub returns-in_err-count : goal.returns-in_err-count
returns-in_err-count c =
    let p = err_from_is_err_and c.from_residual-in_err-count.result c.from_residual-in_err-count.ensures.1 in
    rw (p.1, p.2) (no_count c.args.version c.args.bytes.now c.in_ok-committed.committed.state c.in_ok-committed.rest.now c.in_ok-committed.ensures.0.state c.in_ok-committed.ensures.1 c.in_err-count.field-0.0 c.in_err-count.ensures)

pub returns-then-count-gt-MOST_MEMBERS : goal.returns-then-count-gt-MOST_MEMBERS
returns-then-count-gt-MOST_MEMBERS c =
    too_many c.args.version c.args.bytes.now c.in_ok-committed.committed.state c.in_ok-committed.rest.now c.in_ok-committed.ensures.0.state c.in_ok-committed.ensures.1 c.in_ok-count.count c.in_ok-count.rest.now c.in_ok-count.ensures.1
    (omega (arith, c.if-count-gt-MOST_MEMBERS.true))

pub returns : goal.returns
returns c =
    chain_taken c.args.version c.args.bytes.now c.in_ok-committed.committed.state c.in_ok-committed.rest.now c.in_ok-committed.ensures.0.state c.in_ok-committed.ensures.1 c.in_ok-count.count c.in_ok-count.rest.now c.in_ok-count.ensures.1
    (omega (arith, c.if-count-gt-MOST_MEMBERS.false)) c.filled.result c.filled.ensures
