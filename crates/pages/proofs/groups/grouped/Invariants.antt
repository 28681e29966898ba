use Rattle.pages.proofs.GroupLemmas.{IsGrouped}
use Rattle.pages.proofs.groups.grouped.Given as goal

-- the last pages are in groups
abbrev pub invariant-loop-left : goal.invariant-loop-left
invariant-loop-left l = IsGrouped l.fn.pages.items l.rest.items l.groups.items l.left
