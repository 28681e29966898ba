use Rattle.std.proofs.Common.{◌<◌, length, ap, arith}
use Rattle.executor.proofs.PutBackLemmas.{taken_next}
use Rattle.executor.proofs.group_run.take_tasks.Goals as goal

pub loop-request-preserved : goal.loop-request-preserved
loop-request-preserved c =
    let l = c.loop-request in
    let within : l.request-index < length c.args.running.now.items = omega (arith, c.loop-request-test.true, l.auto.request-items, ap length c.deref_mut-request-items.ensures.value) in
    taken_next c.args.group c.args.running.now.items l.request-index l.request-items l.tasks.items c.take_next.new.tasks.items c.request-item.result c.take_next.new.request l.invariant within
    c.in_ok-take_next.ensures.emptied c.in_ok-take_next.ensures.task
