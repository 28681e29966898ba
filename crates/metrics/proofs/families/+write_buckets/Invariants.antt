use Rattle.std.proofs.Common.{length}
use Rattle.metrics.proofs.families.+write_buckets.Given as goal

abbrev pub decreases-write_buckets : goal.decreases-write_buckets
decreases-write_buckets l = length l.counts.now
