use Rattle.std.proofs.Common.{◌≡◌, map, take}
use Rattle.ensemble.specs.Kept.{kept_of_verifier}
use Rattle.ensemble.proofs.recording.kept_verifiers.Given as goal

abbrev pub invariant-loop-slot : goal.invariant-loop-slot
invariant-loop-slot l = l.kept.items ≡ map kept_of_verifier (take l.slot-index l.verifiers)
