use Rattle.std.proofs.Common.{◌≡◌, None, drop}
use Rattle.executor.specs.Work.{least_of}
use Rattle.executor.proofs.groups.least_group.Given as goal

-- the least so far, and those that come later
abbrev pub invariant-loop-r : goal.invariant-loop-r
invariant-loop-r l = least_of l.last l.least (drop l.r-index l.running) ≡ least_of l.last None l.running
