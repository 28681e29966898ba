use Rattle.std.proofs.Common.{◌≡◌}
use Rattle.verifier.specs.State.{to_others_below}
use Rattle.verifier.proofs.letters.to_others.Given as goal

abbrev pub invariant-loop-to : goal.invariant-loop-to
invariant-loop-to l = l.letters.items ≡ to_others_below l.id l.to l.body
