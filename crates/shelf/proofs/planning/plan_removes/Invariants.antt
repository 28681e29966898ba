use Rattle.std.proofs.Common.{◌≡◌, ◌++◌, ◌-◌}
use Rattle.shelf.specs.WaitingView.{removals}
use Rattle.shelf.proofs.planning.plan_removes.Given as goal

abbrev pub invariant-loop-number : goal.invariant-loop-number
invariant-loop-number l = l.out.items ≡ l.fn.out.items ++ removals l.first (l.number - l.first)
