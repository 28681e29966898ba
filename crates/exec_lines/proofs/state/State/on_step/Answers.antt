use Rattle.std.proofs.Common.{◌≡◌, true, Option, Some, None, Result, Ok, Err, refl, sym, ap, ◌∙◌}
use Rattle.std.specs.Prelude.{is_some, not, IsOk}
use Rattle.executor.specs.Work.{WorkView}
use Rattle.executor.specs.StepOf.{step_of}
use Rattle.exec_lines.specs.State.{ExecutorState}
use Rattle.exec_lines.specs.Lines.{work_after}
use Rattle.exec_lines.proofs.state.State.on_step.Goals as goal

none_of : (o : Option WorkView) → not (is_some o) ≡ true → o ≡ None
none_of None e = refl
none_of (Some w) e = absurd (cc e)

clash : {X E : Type 0} (r : Result X E) → IsOk r → (e : E) → r ≡ Err e → ⊥
clash (Ok x) ok e is = absurd (cc is)
clash (Err x) ok e is = absurd (cc ok)

pub returns-in_err-step-clause-fits_none : goal.returns-in_err-step-clause-fits_none
returns-in_err-step-clause-fits_none c none =
    let work : c.args.self.now.work ≡ Some c.in-Some.work = sym (ap (λ (s : ExecutorState). s.work) c.self.view_is) ∙ c.in-Some.is in
    let no_step : step_of c.in-Some.work c.args.place ≡ None = sym (ap (λ (o : Option WorkView). work_after o c.args.place) work) ∙ none_of (work_after c.args.self.now.work c.args.place) none in
    absurd (clash c.step.result (c.step.ensures.no_step no_step) c.in_err-step.field-0.0 c.in_err-step.was)
