use Rattle.std.proofs.Common.{ap, ◌∙◌, subst}
use Rattle.exec_lines.specs.Job.{job_of, RunsJob}
use Rattle.exec_lines.specs.State.{ExecutorOutcome}
use Rattle.exec_node.specs.Executor.{ExecutorView, executor_record_after}
use Rattle.exec_node.proofs.node.ExecNode.run_and_save.Goals as goal

pub returns-clause-ran : goal.returns-clause-ran
returns-clause-ran g c =
    let o : ExecutorOutcome = record { state = c.run.new.self; saves = c.in_ok-outcome.outcome.saves; letters = c.in_ok-outcome.outcome.letters.items } in (
      o,
      subst (λ (v : ExecutorView). RunsJob v.u v.id v.state (job_of v.state.work) o) c.self.view_is c.in_ok-outcome.ensures.ran,
      c.in_ok-letters.ensures.done ∙ ap (λ (v : ExecutorView). record v { state = o.state; saved = executor_record_after v o }) c.self.view_is,
      ap (λ ls. ls.items) c.in_ok-letters.ensures.letters,
    )
