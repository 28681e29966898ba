use Rattle.std.proofs.Common.{◌≡◌, ◌++◌}
use Rattle.exec_lines.specs.State.{to_first_verifiers}
use Rattle.exec_lines.proofs.letters.to_verifiers.Given as goal

abbrev pub invariant-loop-to : goal.invariant-loop-to
invariant-loop-to l = l.letters.items ≡ l.fn.letters.items ++ to_first_verifiers l.id l.to l.ballot
