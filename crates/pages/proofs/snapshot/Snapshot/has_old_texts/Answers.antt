use Rattle.std.proofs.Common.{refl, arith}
use Rattle.pages.proofs.snapshot.Snapshot.has_old_texts.Goals as goal

pub returns : goal.returns
returns c = (λ yes p l. c.loop-number.invariant p (omega (arith, l, c.loop-number-test.false)), λ fit. refl)
