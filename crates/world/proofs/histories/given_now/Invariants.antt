use Rattle.std.proofs.Common.{◌≡◌, map, take}
use Rattle.world.specs.History.{texts_in}
use Rattle.world.proofs.histories.given_now.Given as goal

abbrev pub invariant-loop-slot : goal.invariant-loop-slot
invariant-loop-slot l = texts_in l.given.items ≡ map (λ slot. slot.given) (take l.slot-index l.clients)
