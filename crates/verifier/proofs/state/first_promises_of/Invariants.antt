use Rattle.std.proofs.Common.{◌≡◌}
use Rattle.verifier.specs.State.{first_promises}
use Rattle.verifier.proofs.state.first_promises_of.Given as goal

abbrev pub invariant-loop-from : goal.invariant-loop-from
invariant-loop-from l = l.promises ≡ first_promises l.from
