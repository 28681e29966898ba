use Rattle.std.proofs.Common.{◌≡◌, ◌++◌, drop}
use Rattle.app.specs.Printed.{lines_from, verifier_line}
use Rattle.app.proofs.printing.write_verifiers.Given as goal

-- what was written so far, and the other lines, are all of them
abbrev pub invariant-loop-i : goal.invariant-loop-i
invariant-loop-i l = l.out.items ++ lines_from verifier_line l.i (drop l.i l.verifiers) ≡ l.fn.out.items ++ lines_from verifier_line 0 l.verifiers
