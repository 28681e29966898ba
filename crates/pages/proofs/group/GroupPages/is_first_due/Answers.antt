use Rattle.std.proofs.Common.{◌-◌, arith}
use Rattle.pages.proofs.StillLemmas.{all-still-earlier}
use Rattle.pages.proofs.group.GroupPages.is_first_due.Goals as goal

pub returns-then-before : goal.returns-then-before
returns-then-before c first moment l = all-still-earlier (c.args.time - 1) moment (omega (arith, l)) c.args.self.now (c.has_due.ensures c.if-has_due.false)

pub returns-else-before : goal.returns-else-before
returns-else-before c first moment l = all-still-earlier (c.args.time - 1) moment (omega (arith, l)) c.args.self.now (c.has_due.ensures c.if-has_due.false)
