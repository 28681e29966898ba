use Rattle.std.proofs.Common.{◌≡◌, take}
use Rattle.shelf.proofs.reading.shared.Given as goal

abbrev pub invariant-loop-item : goal.invariant-loop-item
invariant-loop-item l = l.shared.items ≡ take l.item-index l.items
