use Rattle.item_rows.proofs.ChangedLemmas.{ArePagesNoted}
use Rattle.item_rows.proofs.changed.changes_since.Given as goal

-- what became of the pages so far is noted
abbrev pub invariant-loop-number : goal.invariant-loop-number
invariant-loop-number l = ArePagesNoted l.number l.old l.new l.changes.items
