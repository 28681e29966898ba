use Rattle.std.proofs.Common.{arith}
use Rattle.std.proofs.lemmas.Result.{err_from_is_err_and}
use Rattle.states.proofs.RecordLemmas.{no_head, takes_first, takes_later}
use Rattle.states.proofs.state.State.take_current.Goals as goal

pub returns-in_err-head : goal.returns-in_err-head
returns-in_err-head c =
    let p = err_from_is_err_and c.from_residual.result c.from_residual.ensures.1 in
    rw (p.1, p.2) (no_head c.args.bytes.now c.in_err-head.field-0.0 c.in_err-head.ensures)

pub returns-then-head-eq0 : goal.returns-then-head-eq0
returns-then-head-eq0 c = takes_first c.args.bytes.now c.in_ok-head.head _ c.in_ok-head.ensures.1 c.if-head-eq0.true c.take_first.result c.take_first.ensures

pub returns-else-head-eq0 : goal.returns-else-head-eq0
returns-else-head-eq0 c = takes_later c.args.bytes.now c.in_ok-head.head _ c.in_ok-head.ensures.1 (omega (arith, c.if-head-eq0.false)) c.take_later.result c.take_later.ensures
