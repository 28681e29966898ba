use Rattle.std.proofs.Common.{length}
use Rattle.metrics.proofs.families.+write_folders.Given as goal

abbrev pub decreases-write_folders : goal.decreases-write_folders
decreases-write_folders l = length l.folders.now
