use Rattle.std.proofs.Common.{◌≡◌}
use Rattle.executor.specs.Through.{later}
use Rattle.executor.specs.GroupRun.{IsUntouched}
use Rattle.executor.proofs.work.Work.run_on_threads.Given as goal

-- it is still the same batch over the same base, before the first step of a group
abbrev pub invariant-loop-ran : goal.invariant-loop-ran
invariant-loop-ran g l = record {
  others : l.work ≡ record l.fn.self { progress = l.work.progress };
  afresh : IsUntouched l.work.progress;
}

abbrev pub decreases-loop-ran : goal.decreases-loop-ran
decreases-loop-ran g l = later l.work.progress
