use Rattle.std.proofs.Common.{◌≡◌, ◌≤◌}
use Rattle.decrees.specs.Count.{count_below}
use Rattle.decrees.specs.Votes.{has_token}
use Rattle.decrees.proofs.heard.Heard.support.Given as goal

abbrev pub invariant-loop-executor : goal.invariant-loop-executor
invariant-loop-executor l = record { counted : l.count ≡ count_below (has_token l.self.standing.now l.self.votes.now l.token) l.executor; bounded : l.count ≤ l.executor }
