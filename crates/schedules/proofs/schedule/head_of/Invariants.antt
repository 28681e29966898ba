use Rattle.std.proofs.Common.{◌≡◌, ◌+◌, ◌<◌, ◌≤◌, length, None}
use Rattle.std.specs.Option.{IfSome}
use Rattle.schedules.specs.Schedule.{lines_of}
use Rattle.schedules.specs.Reading.{head_said}
use Rattle.schedules.proofs.schedule.head_of.Given as goal

abbrev pub invariant-loop-rest : goal.invariant-loop-rest
invariant-loop-rest l = record {
  said : head_said l.size l.number (lines_of l.rest) ≡ head_said None 0 (lines_of l.fn.bytes);
  count : l.number + length l.rest ≤ length l.fn.bytes;
  small : IfSome l.size (λ u. u < 4);
}

abbrev pub decreases-loop-rest : goal.decreases-loop-rest
decreases-loop-rest l = length l.rest
