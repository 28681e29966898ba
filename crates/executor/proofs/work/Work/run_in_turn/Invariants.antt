use Rattle.std.proofs.Common.{◌≡◌}
use Rattle.executor.specs.Through.{later}
use Rattle.executor.proofs.TurnLemmas.{steps_left}
use Rattle.executor.proofs.work.Work.run_in_turn.Given as goal

-- it is still the same batch over the same base, in the same group
abbrev pub invariant-loop-place : goal.invariant-loop-place
invariant-loop-place l = record {
  others : l.work ≡ record l.fn.self { progress = l.work.progress };
  left : later l.work.progress ≡ later l.fn.self.progress;
}

abbrev pub decreases-loop-place : goal.decreases-loop-place
decreases-loop-place l = steps_left l.work.progress.running
