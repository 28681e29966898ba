use Rattle.std.proofs.Common.{◌≡◌}
use Rattle.workers.proofs.rounds.make_all.Given as goal

abbrev pub invariant-loop-index : goal.invariant-loop-index
invariant-loop-index g l = l.seat.caller ≡ l.initial.seat.caller
