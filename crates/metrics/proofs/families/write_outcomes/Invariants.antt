use Rattle.std.proofs.Common.{◌≡◌, ◌++◌, drop}
use Rattle.metrics.specs.Families.{outcomes_text}
use Rattle.metrics.proofs.families.write_outcomes.Given as goal

-- what was written so far, and the other lines, are all of them
abbrev pub invariant-loop-outcome : goal.invariant-loop-outcome
invariant-loop-outcome l = l.out.items ++ outcomes_text l.commands l.kind (drop l.outcome-index l.outcomes) ≡ l.fn.out.items ++ outcomes_text l.commands l.kind l.outcomes
