use Rattle.std.proofs.Common.{◌≡◌, take}
use Rattle.item_rows.proofs.changed.row_items.Given as goal

-- those so far were copied
abbrev pub invariant-loop-entry : goal.invariant-loop-entry
invariant-loop-entry l = l.items.items ≡ take l.entry-index l.entries
