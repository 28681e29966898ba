use Rattle.std.proofs.Common.{◌<◌, length, arith}
use Rattle.std.specs.Vec.Iter.{into_iter_items}
use Rattle.executor.proofs.PutBackLemmas.{put_next}
use Rattle.executor.proofs.group_run.put_back.Goals as goal

pub loop-request-preserved : goal.loop-request-preserved
loop-request-preserved c before answers_to e f =
    let l = c.loop-request in
    let within : l.request-index < length l.request-items = omega (arith, c.loop-request-test.true) in
    put_next c.args.group before answers_to l.request-index l.request-items (into_iter_items l.ran) (into_iter_items c.put_next.new.ran) c.request-item.result c.put_next.new.request (l.invariant before answers_to e f) within
    c.put_next.ensures
