use Rattle.std.proofs.Common.{◌≡◌, List, map}
use Rattle.std.specs.Vec.Iter.{into_iter_items}
use Rattle.item_steps.specs.declared.step.Answer.{Answer}
use Rattle.item_steps.specs.declared.group.Task.{Task}
use Rattle.executor.specs.BatchRequest.{BatchRequest}
use Rattle.executor.specs.GroupRun.{tasks_in, emptied, ran_of}
use Rattle.executor.proofs.PutBackLemmas.{PutSoFar}
use Rattle.executor.proofs.group_run.put_back.Given as goal

-- the steps of the requests before this one were put back
abbrev pub invariant-loop-request : goal.invariant-loop-request
invariant-loop-request l = (before : List BatchRequest) (answers_to : Task → List Answer) → l.fn.running.items ≡ map (emptied l.group) before → l.fn.ran.items ≡ map (ran_of answers_to) (tasks_in l.group before)
    → PutSoFar l.group before answers_to l.request-index l.request-items (into_iter_items l.ran)
