use Rattle.std.proofs.Common.{ℕ, ◌<◌}
use Rattle.wire.specs.Item.{PageFits}
use Rattle.pages.specs.Old.{old_entries}
use Rattle.pages.proofs.snapshot.Snapshot.has_old_texts.Given as goal

-- the old pages so far have a text
abbrev pub invariant-loop-number : goal.invariant-loop-number
invariant-loop-number l = (p : ℕ) → p < l.number → PageFits (old_entries l.self.items p)
