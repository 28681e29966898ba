use Rattle.std.proofs.Common.{◌≤◌, ◌+◌}
use Rattle.items.specs.Index.{IsDueUpTo}
use Rattle.items.proofs.index.count_due.Given as goal

-- the entries so far are due, and each but the first was looked at
abbrev pub invariant-loop-at : goal.invariant-loop-at
invariant-loop-at l = IsDueUpTo l.moment l.index l.at × (l.looks + 1 ≤ l.fn.looks + l.at)
