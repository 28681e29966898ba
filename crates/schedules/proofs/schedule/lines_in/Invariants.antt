use Rattle.std.proofs.Common.{◌≡◌, ◌+◌, ◌<◌, ◌^◌, length, map}
use Rattle.schedules.specs.Schedule.{lines_of}
use Rattle.schedules.specs.Reading.{line_view, lines_said, with_lines}
use Rattle.schedules.proofs.schedule.lines_in.Given as goal

abbrev pub invariant-loop-rest : goal.invariant-loop-rest
invariant-loop-rest l = record {
  said : with_lines (map line_view l.lines.items) (lines_said l.number (lines_of l.rest)) ≡ lines_said l.fn.before (lines_of l.fn.bytes);
  count : l.number + length l.rest < 2 ^ 64;
}

abbrev pub decreases-loop-rest : goal.decreases-loop-rest
decreases-loop-rest l = length l.rest
