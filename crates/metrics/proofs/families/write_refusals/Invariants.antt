use Rattle.std.proofs.Common.{◌≡◌, ◌++◌, drop}
use Rattle.metrics.specs.Families.{refusals_text}
use Rattle.metrics.proofs.families.write_refusals.Given as goal

-- what was written so far, and the other lines, are all of them
abbrev pub invariant-loop-refusal : goal.invariant-loop-refusal
invariant-loop-refusal l = l.out.items ++ refusals_text l.counts (drop l.refusal-index l.refusals) ≡ l.fn.out.items ++ refusals_text l.counts l.refusals
