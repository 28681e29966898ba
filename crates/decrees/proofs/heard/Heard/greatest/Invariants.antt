use Rattle.std.proofs.Common.{◌≡◌, ◌≤◌}
use Rattle.decrees.specs.Votes.{greatest_below}
use Rattle.decrees.proofs.heard.Heard.greatest.Given as goal

abbrev pub invariant-loop-executor : goal.invariant-loop-executor
invariant-loop-executor l = record { counted : l.greatest ≡ greatest_below l.u l.self.standing.now l.self.votes.now l.executor; bounded : l.greatest ≤ 7 }
