use Rattle.std.proofs.Common.{◌≡◌, ◌+◌, length}
use Rattle.item_rows.specs.Row.{row_number_of}
use Rattle.item_rows.specs.Rising.{AreRising}
use Rattle.item_rows.specs.Changed.{row_number_at_front}
use Rattle.item_rows.proofs.NotedLemmas.{GoesOn}
use Rattle.item_rows.proofs.changed.compare.Given as goal

-- the row numbers are those at the front, and what is noted goes on with the rests
abbrev pub invariant-loop-at : goal.invariant-loop-at
invariant-loop-at l = (l.old_rest.first ≡ row_number_at_front l.old_rest.entries.now) × (l.new_rest.first ≡ row_number_at_front l.new_rest.entries.now)
    × (AreRising row_number_of l.fn.old → AreRising row_number_of l.fn.new → GoesOn l.fn.old l.fn.new l.old_rest.entries.now l.new_rest.entries.now l.changes.items)

abbrev pub decreases-loop-at : goal.decreases-loop-at
decreases-loop-at l = length l.old_rest.entries.now + length l.new_rest.entries.now
