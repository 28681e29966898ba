use Rattle.std.proofs.Common.{◌≡◌, ◌++◌, drop, map}
use Rattle.grammar.specs.Stats.{word_lines}
use Rattle.grammar.proofs.stats.put_words.Given as goal

-- what was written so far, and the other lines, are all of them
abbrev pub invariant-loop-row : goal.invariant-loop-row
invariant-loop-row l = l.out.items ++ word_lines (map (λ r. (r.0.now, r.1.now)) (drop l.row-index l.rows)) ≡ l.fn.out.items ++ word_lines (map (λ r. (r.0.now, r.1.now)) l.rows)
