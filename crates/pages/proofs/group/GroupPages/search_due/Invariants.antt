use Rattle.std.proofs.Common.{ℕ, ◌<◌, ◌≤◌, ◌-◌}
use Rattle.pages.specs.Known.{AreStill}
use Rattle.pages.proofs.group.GroupPages.search_due.Given as goal

-- nothing is due before the lower one
abbrev pub invariant-loop-low : goal.invariant-loop-low
invariant-loop-low l = (l.low ≤ l.high) × ((moment : ℕ) → moment < l.low → AreStill moment l.self)

abbrev pub decreases-loop-low : goal.decreases-loop-low
decreases-loop-low l = l.high - l.low
