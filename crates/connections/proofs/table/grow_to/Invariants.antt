use Rattle.std.proofs.Common.{◌+◌, ◌-◌, length}
use Rattle.connections.specs.Slots.{IsGrown}
use Rattle.connections.proofs.table.grow_to.Given as goal

-- only slots were added
abbrev pub invariant-loop-table : goal.invariant-loop-table
invariant-loop-table l = IsGrown l.initial.table.items l.table.items

abbrev pub decreases-loop-table : goal.decreases-loop-table
decreases-loop-table l = l.key + 1 - length l.table.items
