use Rattle.std.proofs.Common.{◌≡◌, take}
use Rattle.pages.proofs.groups.Groups.pages.Given as goal

-- the pages so far
abbrev pub invariant-loop-number : goal.invariant-loop-number
invariant-loop-number l = l.pages.items ≡ take l.number l.self
