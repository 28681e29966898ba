use Rattle.std.proofs.Common.{◌≡◌, ℕ, ◌<◌, [], length, get_or}
use Rattle.pages.specs.Page.{page_digest_in, page_count}
use Rattle.pages.specs.Joined.{AreSealed, joined_pages, items_of}
use Rattle.pages.specs.declared.layout.Layout.{Layout}
use Rattle.pages.proofs.snapshot.digests_of.Given as goal

-- the digests so far are in their places
abbrev pub invariant-loop-number : goal.invariant-loop-number
invariant-loop-number l = (length l.digests ≡ page_count) × ((layout : Layout) → AreSealed layout l.pages.items → (k : ℕ) → k < l.number → get_or l.digests k [] ≡ page_digest_in layout (joined_pages (items_of l.pages.items)) k)
