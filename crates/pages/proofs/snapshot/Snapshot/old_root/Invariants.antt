use Rattle.std.proofs.Common.{◌≡◌, ℕ, ◌<◌, [], length, get_or}
use Rattle.token.specs.declared.tree.TheConstants.{OLD_PAGES}
use Rattle.pages.specs.Page.{digest_among}
use Rattle.pages.proofs.snapshot.Snapshot.old_root.Given as goal

-- the digests so far are in their places
abbrev pub invariant-loop-number : goal.invariant-loop-number
invariant-loop-number l = (length l.digests ≡ OLD_PAGES) × ((k : ℕ) → k < l.number → get_or l.digests k [] ≡ digest_among OLD_PAGES l.self.items k)
