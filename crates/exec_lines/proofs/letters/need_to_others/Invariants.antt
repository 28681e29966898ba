use Rattle.std.proofs.Common.{◌≡◌, ◌++◌}
use Rattle.exec_lines.specs.declared.body.Body.TheVariants.{Need}
use Rattle.exec_lines.specs.State.{to_first_executors}
use Rattle.exec_lines.proofs.letters.need_to_others.Given as goal

abbrev pub invariant-loop-to : goal.invariant-loop-to
invariant-loop-to l = l.letters.items ≡ l.fn.letters.items ++ to_first_executors l.id l.to (Need l.need)
