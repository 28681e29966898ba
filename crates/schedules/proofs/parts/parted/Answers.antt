use Rattle.std.proofs.Common.{arith}
use Rattle.schedules.proofs.PartsLemmas.{parted_none, parted_at, drop_one_more}
use Rattle.schedules.proofs.parts.parted.Goals as goal

pub returns-in-None : goal.returns-in-None
returns-in-None c = parted_none c.args.separator c.args.text.now (λ k l. c.in-None.ensures k (omega arith) l)

pub returns-in-Some : goal.returns-in-Some
returns-in-Some c =
    let first = c.in-Some.ensures in
    rw (c.split_at.ensures.front, c.split_at-in-Some.ensures.back, c.split_at.ensures.back, drop_one_more c.args.text.now c.in-Some.at)
    (parted_at c.args.separator c.args.text.now c.in-Some.at first.0.high (λ k l. first.0.before k (omega arith) l) first.1)
