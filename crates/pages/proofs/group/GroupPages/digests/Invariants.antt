use Rattle.std.proofs.Common.{◌≡◌, ℕ, ◌<◌, [], length, get_or}
use Rattle.pages.specs.Layout.{digest_in}
use Rattle.pages.specs.Group.{page_at}
use Rattle.pages.specs.declared.group.TheConstants.{GROUP_PAGES}
use Rattle.pages.proofs.group.GroupPages.digests.Given as goal

-- the digests so far are in their places
abbrev pub invariant-loop-index : goal.invariant-loop-index
invariant-loop-index l = (length l.digests ≡ GROUP_PAGES) × ((k : ℕ) → k < l.index → get_or l.digests k [] ≡ digest_in (page_at l.self k).layout (page_at l.self k).items)
