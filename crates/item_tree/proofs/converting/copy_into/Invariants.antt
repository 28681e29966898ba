use Rattle.std.specs.Prelude.{◌≡◌, ◌-◌, length, drop}
use Rattle.std.specs.FinMap.{from_entries}
use Rattle.item_tree.proofs.converting.copy_into.Given as goal

-- the last ones were put, so many as were gone back over
abbrev pub invariant-loop-back : goal.invariant-loop-back
invariant-loop-back g l = g.S.Store.contents l.store ≡ from_entries (drop (length l.entries - l.back) l.entries)
