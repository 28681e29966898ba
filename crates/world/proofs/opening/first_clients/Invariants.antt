use Rattle.std.proofs.Common.{◌≡◌}
use Rattle.worlds.specs.World.{new_clients}
use Rattle.world.proofs.opening.first_clients.Given as goal

abbrev pub invariant-loop-i : goal.invariant-loop-i
invariant-loop-i l = l.clients.items ≡ new_clients l.u l.i
