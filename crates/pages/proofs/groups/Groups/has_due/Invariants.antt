use Rattle.std.proofs.Common.{ℕ, ◌<◌}
use Rattle.pages.specs.Group.{page_at, page_in_group}
use Rattle.pages.specs.Known.{IsStill}
use Rattle.pages.specs.declared.group.TheConstants.{GROUP_PAGES}
use Rattle.pages.proofs.groups.Groups.has_due.Given as goal

-- nothing is due in the pages of the groups so far
abbrev pub invariant-loop-group : goal.invariant-loop-group
invariant-loop-group l = (g i : ℕ) → g < l.group → i < GROUP_PAGES → IsStill l.moment (page_at l.self (page_in_group g i))
