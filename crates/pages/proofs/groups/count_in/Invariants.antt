use Rattle.std.proofs.Common.{◌≡◌, ◌≤◌, ◌*◌, take}
use Rattle.std.specs.Prelude.{◌^◌}
use Rattle.pages.specs.Page.{item_count}
use Rattle.pages.specs.Joined.{items_of}
use Rattle.pages.specs.Group.{pages_in}
use Rattle.pages.proofs.groups.count_in.Given as goal

-- the groups so far have so many
abbrev pub invariant-loop-group : goal.invariant-loop-group
invariant-loop-group l = (l.count ≡ item_count (items_of (pages_in (take l.group l.groups.items)))) × (l.count ≤ l.group * 2 ^ 36)
