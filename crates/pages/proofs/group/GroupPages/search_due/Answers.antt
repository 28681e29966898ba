use Rattle.std.proofs.Common.{◌+◌, ◌-◌, ◌/◌, arith}
use Rattle.pages.proofs.StillLemmas.{all-still-earlier}
use Rattle.pages.proofs.group.GroupPages.search_due.Goals as goal

pub returns-then-not-has_due : goal.returns-then-not-has_due
returns-then-not-has_due c moment l = all-still-earlier 4294967295 moment (omega (arith, l)) c.args.self.now (c.has_due.ensures c.if-not-has_due.true)

pub loop-low-preserved : goal.loop-low-preserved
loop-low-preserved c = (
  omega (arith, c.loop-low-test.true, c.loop-low.invariant.0),
  λ moment l. all-still-earlier (c.loop-low.low + (c.loop-low.high - c.loop-low.low) / 2) moment (omega (arith, l)) c.args.self.now
      (c.has_due-in-loop-low.ensures c.if-has_due.false),
)
