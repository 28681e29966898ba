use Rattle.std.proofs.Common.{◌≡◌, [], Option, Some, sym, ap, ◌∙◌, subst}
use Rattle.std.proofs.lemmas.Bool.{cond-true}
use Rattle.executor.specs.GroupRun.{is_untouched}
use Rattle.exec_lines.specs.State.{ExecutorState}
use Rattle.exec_lines.specs.Lines.{completed}
use Rattle.exec_lines.specs.Job.{JobView, job_of, RunsJob}
use Rattle.exec_lines.proofs.state.State.run.Goals as goal

pub returns-in_ok-outcome-in-Some-clause-ran : goal.returns-in_ok-outcome-in-Some-clause-ran
returns-in_ok-outcome-in-Some-clause-ran g c =
    let w = c.in-Some.work in
    let work : c.args.self.now.work ≡ Some w = sym (ap (λ (s : ExecutorState). s.work) c.self.view_is) ∙ sym c.in-Some.ensures.value in
    let job : job_of c.args.self.now.work ≡ Some (record { base = w.base; batch = w.batch; ordered = w.ordered }) = ap job_of work ∙ cond-true (is_untouched w.progress) _ _ (sym c.if-is_untouched.ensures.none) in
    let ran = c.in_ok-outcome-in-Some.ensures in
    subst (λ (j : Option JobView). RunsJob c.args.u c.args.id c.args.self.now j (record { state = c.run_work.new.self; saves = c.in_ok-outcome-in-Some.outcome.saves; letters = c.in_ok-outcome-in-Some.outcome.letters.items })) (sym job)
    (ran.0, ran.1, ran.2 ∙ ap (λ (s : ExecutorState). completed c.args.u c.args.id s [] ran.0) c.self.view_is)
