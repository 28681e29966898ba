use Rattle.std.proofs.Common.{◌-◌, length}
use Rattle.app.specs.Past.{AllMarkedBelow}
use Rattle.app.proofs.past.Delivered.first_left.Given as goal

abbrev pub invariant-loop-at : goal.invariant-loop-at
invariant-loop-at l = AllMarkedBelow l.at l.fn.self

abbrev pub decreases-loop-at : goal.decreases-loop-at
decreases-loop-at l = length l.fn.self - l.at
