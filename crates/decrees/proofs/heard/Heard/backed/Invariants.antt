use Rattle.std.proofs.Common.{◌≡◌}
use Rattle.decrees.specs.Votes.{backed_below}
use Rattle.decrees.proofs.heard.Heard.backed.Given as goal

abbrev pub invariant-loop-executor : goal.invariant-loop-executor
invariant-loop-executor l = l.backed ≡ backed_below l.u l.self.standing.now l.self.votes.now l.executor
