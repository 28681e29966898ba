use Rattle.std.proofs.Common.{◌*◌, ◌+◌}
use Rattle.merkle.specs.Shape.{nodes}
use Rattle.merkle.specs.Tree.{shape, fork_shape}
use Rattle.merkle.proofs.hashing.+rehash.Given as goal

abbrev pub decreases-rehash_at : goal.decreases-rehash_at
decreases-rehash_at g l = 2 * nodes (shape l.tree.now) + 1

abbrev pub decreases-rehash_fork : goal.decreases-rehash_fork
decreases-rehash_fork g l = 2 * nodes (fork_shape l.fork.now)
