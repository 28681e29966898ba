use Rattle.std.proofs.Common.{◌-◌}
use Rattle.merkle.proofs.putting.+two_at.Given as goal

abbrev pub decreases-two_at : goal.decreases-two_at
decreases-two_at g l = g.K.TreeKey.BITS - l.depth
