use Rattle.exec_lines.specs.State.{runs_in_order}
use Rattle.exec_lines.proofs.BegunLemmas.{begin_is_over}
use Rattle.exec_lines.proofs.state.State.begin.Goals as goal

pub go_on-requires-clause-over : goal.go_on-requires-clause-over
go_on-requires-clause-over c = rw c.in_ok-ended.ensures (begin_is_over c.args.self.now.chain c.args.batch (runs_in_order c.args.self.now.standing c.args.batch.n))
