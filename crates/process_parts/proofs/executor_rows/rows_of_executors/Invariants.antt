use Rattle.std.proofs.Common.{take}
use Rattle.std.specs.List.{AllZip}
use Rattle.process_parts.specs.Parts.{IsExecutorRow}
use Rattle.process_parts.proofs.executor_rows.rows_of_executors.Given as goal

abbrev pub invariant-loop-keeper : goal.invariant-loop-keeper
invariant-loop-keeper l = AllZip (IsExecutorRow l.head) l.rows.items (take l.keeper-index l.keepers)
