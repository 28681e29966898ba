use Rattle.std.proofs.Common.{vec_len}
use Rattle.ensemble.proofs.nodes.end_executors.Given as goal

abbrev pub decreases-loop-host : goal.decreases-loop-host
decreases-loop-host l = vec_len l.executors
