use Rattle.std.proofs.Common.{length}
use Rattle.item_rows.proofs.changed.+count_at_front.Given as goal

abbrev pub decreases-count_at_front : goal.decreases-count_at_front
decreases-count_at_front l = length l.entries.now
