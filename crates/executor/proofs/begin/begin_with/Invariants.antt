use Rattle.std.proofs.Common.{◌≡◌, ◌++◌, map, take, drop}
use Rattle.executor.specs.Fresh.{runners_among, fresh_after}
use Rattle.executor.specs.BatchRequest.{HaveFewSteps}
use Rattle.executor.specs.Work.{begun_in}
use Rattle.executor.proofs.begin.begin_with.Given as goal

-- those so far and those that come later are all
abbrev pub invariant-loop-place : goal.invariant-loop-place
invariant-loop-place l = record {
  all : l.running.items ++ map (begun_in l.ordered l.numbers) (fresh_after l.sessions (take l.place l.requests) (drop l.place l.requests)) ≡ map (begun_in l.ordered l.numbers) (runners_among l.sessions l.requests);
  few : HaveFewSteps l.running.items;
}
