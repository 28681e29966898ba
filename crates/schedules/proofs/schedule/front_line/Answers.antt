use Rattle.std.proofs.Common.{arith, sym, length}
use Rattle.std.proofs.lemmas.List.{take_all, drop_all}
use Rattle.schedules.proofs.LinesLemmas.{first_of_lines, only_line}
use Rattle.schedules.proofs.schedule.front_line.Goals as goal

pub returns-in-Some-clause-line : goal.returns-in-Some-clause-line
returns-in-Some-clause-line c = (first_of_lines c.args.bytes.now (c.in-Some.line.now, c.in-Some.after.now) (sym c.in-Some.ensures)).0

pub returns-in-Some-clause-shorter : goal.returns-in-Some-clause-shorter
returns-in-Some-clause-shorter c = (first_of_lines c.args.bytes.now (c.in-Some.line.now, c.in-Some.after.now) (sym c.in-Some.ensures)).1

pub returns-in-None-clause-line : goal.returns-in-None-clause-line
returns-in-None-clause-line c =
    let bytes = c.args.bytes.now in
    rw (c.split_at.ensures.front, c.split_at.ensures.back, take_all (length bytes) bytes (omega arith), drop_all (length bytes) bytes (omega arith))
    (only_line bytes (sym c.in-None.ensures) c.requires)
