use Rattle.std.proofs.Common.{ℕ, ◌<◌}
use Rattle.pages.specs.Group.{page_at}
use Rattle.pages.specs.Known.{IsStill}
use Rattle.pages.proofs.group.GroupPages.has_due.Given as goal

-- nothing is due in the pages so far
abbrev pub invariant-loop-index : goal.invariant-loop-index
invariant-loop-index l = (k : ℕ) → k < l.index → IsStill l.moment (page_at l.self k)
