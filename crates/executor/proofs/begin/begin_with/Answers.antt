use Rattle.executor.specs.Work.{begun_in}
use Rattle.executor.proofs.TaskLemmas.{begun_more}
use Rattle.executor.proofs.begin.begin_with.Goals as goal

pub loop-place-preserved : goal.loop-place-preserved
loop-place-preserved c = record {
  all = begun_more (begun_in c.args.ordered c.args.numbers.now) c.args.sessions.now c.args.requests.now c.loop-place.place c.index-requests-place.result c.loop-place.running.items c.add_running.new.running.items _
      c.loop-place-test.true c.index-requests-place.is c.in_ok-add_running.ensures.begun c.loop-place.invariant.all;
  few = c.in_ok-add_running.ensures.few c.loop-place.invariant.few;
}
