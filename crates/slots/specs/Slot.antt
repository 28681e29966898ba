-- The slot of a replica, whose keeper is in memory.
use Rattle.keeper.specs.Kept.{Kept}
use Rattle.slots.specs.declared.slot.Slot as of_any

abbrev pub Slot : Type 0 → Type 0
Slot N = of_any.Slot N Kept
