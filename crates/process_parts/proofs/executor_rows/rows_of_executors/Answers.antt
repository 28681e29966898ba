use Rattle.process_parts.proofs.RowLemmas.{next_executor}
use Rattle.process_parts.proofs.executor_rows.rows_of_executors.Goals as goal

pub loop-keeper-preserved : goal.loop-keeper-preserved
loop-keeper-preserved c =
    next_executor c.args.head.now c.loop-keeper.rows.items c.push.new.self.items c.in_ok-row_of_executor.field-0 c.args.keepers.now c.loop-keeper.keeper-index c.keeper-item.result
    c.loop-keeper-test.true c.keeper-item.is c.in_ok-push.ensures.items c.loop-keeper.invariant c.in_ok-row_of_executor.ensures
