use Rattle.std.proofs.Common.{◌-◌, ◌*◌, ◌+◌}
use Rattle.merkle.proofs.putting.+put.Given as goal

abbrev pub decreases-put_at : goal.decreases-put_at
decreases-put_at g l = 4 * (g.K.TreeKey.BITS - l.depth) + 3

abbrev pub decreases-put_into : goal.decreases-put_into
decreases-put_into g l = 4 * (g.K.TreeKey.BITS - l.depth) + 2

abbrev pub decreases-put_fork : goal.decreases-put_fork
decreases-put_fork g l = 4 * (g.K.TreeKey.BITS - l.depth) + 1

abbrev pub decreases-put_side : goal.decreases-put_side
decreases-put_side g l = 4 * (g.K.TreeKey.BITS - l.depth)
