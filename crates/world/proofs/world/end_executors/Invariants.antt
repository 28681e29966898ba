use Rattle.std.proofs.Common.{vec_len}
use Rattle.world.proofs.world.end_executors.Given as goal

abbrev pub decreases-loop-slot : goal.decreases-loop-slot
decreases-loop-slot l = vec_len l.executors
