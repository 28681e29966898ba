use Rattle.std.proofs.Common.{◌≡◌, ◌++◌, drop, map}
use Rattle.grammar.specs.Stats.{number_lines}
use Rattle.grammar.proofs.stats.put_numbers.Given as goal

-- what was written so far, and the other lines, are all of them
abbrev pub invariant-loop-row : goal.invariant-loop-row
invariant-loop-row l = l.out.items ++ number_lines (map (λ r. (r.0.now, r.1)) (drop l.row-index l.rows)) ≡ l.fn.out.items ++ number_lines (map (λ r. (r.0.now, r.1)) l.rows)
