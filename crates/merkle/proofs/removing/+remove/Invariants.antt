use Rattle.std.proofs.Common.{◌-◌, ◌*◌, ◌+◌}
use Rattle.merkle.proofs.removing.+remove.Given as goal

abbrev pub decreases-remove_at : goal.decreases-remove_at
decreases-remove_at g l = 5 * (g.K.TreeKey.BITS - l.depth) + 4

abbrev pub decreases-remove_from : goal.decreases-remove_from
decreases-remove_from g l = 5 * (g.K.TreeKey.BITS - l.depth) + 3

abbrev pub decreases-remove_fork : goal.decreases-remove_fork
decreases-remove_fork g l = 5 * (g.K.TreeKey.BITS - l.depth) + 2

abbrev pub decreases-remove_below : goal.decreases-remove_below
decreases-remove_below g l = 5 * (g.K.TreeKey.BITS - l.depth) + 1

abbrev pub decreases-remove_side : goal.decreases-remove_side
decreases-remove_side g l = 5 * (g.K.TreeKey.BITS - l.depth)
