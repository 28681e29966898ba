use Rattle.executor.proofs.PutBackLemmas.{TakenSoFar}
use Rattle.executor.proofs.group_run.take_tasks.Given as goal

-- the steps of the requests before this one were taken
abbrev pub invariant-loop-request : goal.invariant-loop-request
invariant-loop-request l = TakenSoFar l.group l.fn.running.items l.request-index l.request-items l.tasks.items
