use Rattle.std.proofs.Common.{take}
use Rattle.items.specs.Index.{IsIndex}
use Rattle.items.proofs.index.index_of.Given as goal

-- the index of the entries so far
abbrev pub invariant-loop-entry : goal.invariant-loop-entry
invariant-loop-entry l = IsIndex l.index.items (take l.entry-index l.entries)
