use Rattle.std.proofs.Common.{◌-◌, ◌*◌, ◌+◌}
use Rattle.merkle.proofs.dropping.+dropping.Given as goal

abbrev pub decreases-drop_at : goal.decreases-drop_at
decreases-drop_at g l = 3 * (g.K.TreeKey.BITS - l.depth) + 2

abbrev pub decreases-drop_fork : goal.decreases-drop_fork
decreases-drop_fork g l = 3 * (g.K.TreeKey.BITS - l.depth) + 1

abbrev pub decreases-drop_below : goal.decreases-drop_below
decreases-drop_below g l = 3 * (g.K.TreeKey.BITS - l.depth)
