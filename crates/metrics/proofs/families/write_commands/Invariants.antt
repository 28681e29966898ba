use Rattle.std.proofs.Common.{◌≡◌, ◌++◌, drop}
use Rattle.metrics.specs.Families.{commands_text}
use Rattle.metrics.proofs.families.write_commands.Given as goal

-- what was written so far, and the other lines, are all of them
abbrev pub invariant-loop-kind : goal.invariant-loop-kind
invariant-loop-kind l = l.out.items ++ commands_text l.commands (drop l.kind-index l.kinds) ≡ l.fn.out.items ++ commands_text l.commands l.kinds
