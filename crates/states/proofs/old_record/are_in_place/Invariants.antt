use Rattle.std.proofs.Common.{ℕ, ◌<◌}
use Rattle.std.specs.Prelude.{IfSome}
use Rattle.pages.specs.Old.{given_at}
use Rattle.states.specs.OldRecord.{AreOfOld}
use Rattle.states.proofs.old_record.are_in_place.Given as goal

abbrev pub invariant-loop-number : goal.invariant-loop-number
invariant-loop-number l = (p : ℕ) → p < l.number → IfSome (given_at l.given p) (AreOfOld p)
