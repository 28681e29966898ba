use Rattle.std.proofs.Common.{◌≡◌, map, take}
use Rattle.process_parts.specs.Parts.{executor_of_row}
use Rattle.process_parts.proofs.executor_rows.executors_of.Given as goal

abbrev pub invariant-loop-row : goal.invariant-loop-row
invariant-loop-row l = l.keepers.items ≡ map (executor_of_row l.state) (take l.row-index l.rows)
