use Rattle.std.proofs.Common.{◌≡◌, ◌++◌, drop}
use Rattle.std.specs.Prelude.{flat_map}
use Rattle.metrics.specs.Families.{family_text}
use Rattle.metrics.proofs.families.write_families.Given as goal

-- what was written so far, and the other lines, are all of them
abbrev pub invariant-loop-metric : goal.invariant-loop-metric
invariant-loop-metric l = l.out.items ++ flat_map (family_text l.figures l.folders) (drop l.metric-index l.metrics) ≡ l.fn.out.items ++ flat_map (family_text l.figures l.folders) l.metrics
