use Rattle.std.proofs.Common.{◌≡◌, ℕ, ◌<◌, [], length, get_or}
use Rattle.pages.specs.Page.{page_count}
use Rattle.pages.specs.Group.{page_in_group}
use Rattle.pages.specs.declared.group.TheConstants.{GROUP_PAGES}
use Rattle.pages.proofs.tree.Tree.renew.Given as goal

-- the digests of the groups so far are those that are given
abbrev pub invariant-loop-group : goal.invariant-loop-group
invariant-loop-group l = (0 < l.group → length l.self ≡ page_count)
    × ((g i : ℕ) → g < l.group → i < GROUP_PAGES → get_or l.self (page_in_group g i) [] ≡ get_or l.digests (page_in_group g i) [])
