use Rattle.std.proofs.Common.{◌≡◌, ◌++◌, drop}
use Rattle.app.specs.Printed.{lines_from, executor_line}
use Rattle.app.proofs.printing.write_executors.Given as goal

-- what was written so far, and the other lines, are all of them
abbrev pub invariant-loop-i : goal.invariant-loop-i
invariant-loop-i l = l.out.items ++ lines_from executor_line l.i (drop l.i l.executors) ≡ l.fn.out.items ++ lines_from executor_line 0 l.executors
