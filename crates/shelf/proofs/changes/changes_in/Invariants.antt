use Rattle.std.proofs.Common.{take}
use Rattle.shelf.specs.WaitingView.{IsLog}
use Rattle.shelf.proofs.changes.changes_in.Given as goal

abbrev pub invariant-loop-index : goal.invariant-loop-index
invariant-loop-index l = ∥ IsLog l.first (take l.index l.rows) l.all.items ∥₁
