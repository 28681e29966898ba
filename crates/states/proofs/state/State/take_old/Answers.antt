use Rattle.std.proofs.Common.{arith}
use Rattle.std.proofs.lemmas.Result.{err_from_is_err_and}
use Rattle.states.proofs.OldStateLemmas.{no_old_head, takes_old_first, takes_old_later}
use Rattle.states.proofs.state.State.take_old.Goals as goal

pub returns-in_err-head : goal.returns-in_err-head
returns-in_err-head c =
    let p = err_from_is_err_and c.from_residual.result c.from_residual.ensures.1 in
    rw (p.1, p.2) (no_old_head c.args.bytes.now c.in_err-head.field-0.0 c.in_err-head.ensures)

pub returns-then-head-eq0 : goal.returns-then-head-eq0
returns-then-head-eq0 c = takes_old_first c.args.bytes.now c.in_ok-head.head _ c.in_ok-head.ensures.1 c.if-head-eq0.true c.take_old_first.result c.take_old_first.ensures

pub returns-else-head-eq0 : goal.returns-else-head-eq0
returns-else-head-eq0 c = takes_old_later c.args.bytes.now c.in_ok-head.head _ c.in_ok-head.ensures.1 (omega (arith, c.if-head-eq0.false)) c.take_old_later.result c.take_old_later.ensures
