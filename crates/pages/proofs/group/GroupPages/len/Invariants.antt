use Rattle.std.proofs.Common.{◌≡◌, ◌≤◌, ◌*◌, take}
use Rattle.std.specs.Prelude.{◌^◌}
use Rattle.pages.specs.Page.{item_count}
use Rattle.pages.specs.Joined.{items_of}
use Rattle.pages.proofs.group.GroupPages.len.Given as goal

-- the pages so far have so many, and each has less than it could have
abbrev pub invariant-loop-index : goal.invariant-loop-index
invariant-loop-index l = (l.len ≡ item_count (take l.index (items_of l.self))) × (l.len ≤ l.index * 2 ^ 32)
