use Rattle.wire.specs.Batch.{batch_text}
use Rattle.wire.proofs.Items.{both_put}
use Rattle.states.specs.StateRecord.{after_text}
use Rattle.executor.proofs.saved_member.put_member.Goals as goal

pub returns : goal.returns
returns g c =
    let before = c.args.before.now.items in
    both_put c.put_after.result g.S.Sink.holds (batch_text c.args.batch.now) (after_text before c.args.after.now) c.args.sink.now c.put.new.sink c.put_after.new.sink
    c.in_ok-put.ensures (c.put_after.ensures before c.in_ok-changed.ensures)
