use Rattle.std.specs.Prelude.{◌≡◌, ◌-◌, length, drop}
use Rattle.std.specs.FinMap.{from_entries}
use Rattle.item_tree.proofs.store.ItemTree.of_entries.Given as goal

-- the last ones were put, so many as were gone back over
abbrev pub invariant-loop-back : goal.invariant-loop-back
invariant-loop-back l = l.store ≡ from_entries (drop (length l.entries - l.back) l.entries)
