use Rattle.std.proofs.Common.{◌≡◌, ℕ, ◌<◌, false, get_or}
use Rattle.pages.specs.Joined.{items_of}
use Rattle.pages.specs.Group.{AreUnwrittenKept}
use Rattle.pages.proofs.groups.Groups.seal_each.Given as goal

-- the groups so far are sealed
abbrev pub invariant-loop-group : goal.invariant-loop-group
invariant-loop-group l = AreUnwrittenKept l.layout l.self l.tree l.left × ((g : ℕ) → g < l.group → get_or l.left g false ≡ false) × (items_of l.self ≡ items_of l.fn.self)
