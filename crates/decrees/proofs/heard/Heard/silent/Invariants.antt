use Rattle.std.proofs.Common.{◌≡◌, ◌≤◌, is_none}
use Rattle.decrees.specs.Count.{count_below}
use Rattle.decrees.specs.Votes.{heard}
use Rattle.decrees.proofs.heard.Heard.silent.Given as goal

abbrev pub invariant-loop-executor : goal.invariant-loop-executor
invariant-loop-executor l = record { counted : l.count ≡ count_below (λ e. is_none (heard l.self.standing.now l.self.votes.now e)) l.executor; bounded : l.count ≤ l.executor }
