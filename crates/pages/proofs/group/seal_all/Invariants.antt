use Rattle.std.proofs.Common.{◌≡◌, ◌++◌, map, take, drop}
use Rattle.pages.specs.Page.{sealed_in}
use Rattle.pages.proofs.group.seal_all.Given as goal

-- the pages so far are in the layout, and the others are as they were
abbrev pub invariant-loop-page : goal.invariant-loop-page
invariant-loop-page l = l.page-items ≡ map (sealed_in l.layout) (take l.page-index l.fn.pages.items) ++ drop l.page-index l.fn.pages.items
