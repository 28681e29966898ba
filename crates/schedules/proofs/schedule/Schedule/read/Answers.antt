use Rattle.std.proofs.Common.{refl}
use Rattle.std.proofs.lemmas.Result.{err_from_is_err_and}
use Rattle.schedules.specs.Schedule.{lines_of}
use Rattle.schedules.proofs.ReadLemmas.{head_refused, lines_refused, is_spelled}
use Rattle.schedules.proofs.schedule.Schedule.read.Goals as goal

pub returns-in_err-lines-in-Ok-clause-refused : goal.returns-in_err-lines-in-Ok-clause-refused
returns-in_err-lines-in-Ok-clause-refused c =
    let p = err_from_is_err_and c.from_residual.result c.from_residual.ensures.1 in
    rw (p.1, p.2) (lines_refused c.args.bytes.now (c.in-Ok.head.config, c.in-Ok.head.lines, lines_of c.in-Ok.head.rest.now) c.in-Ok.ensures.said _ c.in_err-lines-in-Ok.ensures)

pub returns-in-Err-clause-refused : goal.returns-in-Err-clause-refused
returns-in-Err-clause-refused c = head_refused c.args.bytes.now c.in-Err.fault c.in-Err.ensures.said

pub returns-in_ok-lines-in-Ok-clause-spelled : goal.returns-in_ok-lines-in-Ok-clause-spelled
returns-in_ok-lines-in-Ok-clause-spelled c =
    is_spelled c.args.bytes.now (c.in-Ok.head.config, c.in-Ok.head.lines, lines_of c.in-Ok.head.rest.now) c.in-Ok.ensures.said _ refl c.in_ok-lines-in-Ok.ensures
