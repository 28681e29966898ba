use Rattle.std.proofs.Common.{◌≡◌}
use Rattle.workers.proofs.rounds.make_request.Given as goal

abbrev pub invariant-loop : goal.invariant-loop
invariant-loop g l = l.seat.caller ≡ l.initial.seat.caller
