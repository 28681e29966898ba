use Rattle.std.proofs.Common.{◌≡◌}
use Rattle.worlds.specs.First.{first_verifier, all_up}
use Rattle.ensemble.proofs.opening.opened_verifiers.Given as goal

abbrev pub invariant-loop-id : goal.invariant-loop-id
invariant-loop-id l = l.slots.items ≡ all_up (first_verifier l.u) l.id
