use Rattle.std.proofs.Common.{sym, subst, inl, inr}
use Rattle.std.specs.Prelude.{IsTrue, not}
use Rattle.std.proofs.lemmas.Result.{err_from_is_err_and}
use Rattle.exec_lines.specs.Step.{is_refused, fits_a_line, IsCounted}
use Rattle.exec_node.specs.Executor.{ExecutorView}
use Rattle.exec_node.proofs.StepLemmas.{errors, no_error}
use Rattle.exec_node.proofs.UnfitLemmas.{unfit_unsaved}
use Rattle.exec_node.proofs.node.ExecNode.step_and_save.Goals as goal

pub returns-in_err-outcome-clause-stopped : goal.returns-in_err-outcome-clause-stopped
returns-in_err-outcome-clause-stopped g c h =
    let p = err_from_is_err_and c.from_residual.result c.from_residual.ensures.1 in
    elim (errors (is_refused c.self.inside.state c.args.input) c.step.result c.in_err-outcome.field-0.0 (IsCounted c.self.inside.state) c.in_err-outcome.was (λ r. (c.step.ensures.refused r).0) c.step.ensures.err) [
      | inl unfit ↦ absurd (cc (h, p.1, p.2, unfit.0))
      | inr other ↦ elim other [
        | inl memory ↦ absurd (cc (h, p.1, p.2, memory))
        | inr stopped ↦ inr (inl (subst (λ (v : ExecutorView). IsCounted v.state) c.self.view_is stopped.1))
      ]
    ]

pub returns-in_err-outcome-clause-unfit : goal.returns-in_err-outcome-clause-unfit
returns-in_err-outcome-clause-unfit g c h =
    let p = err_from_is_err_and c.from_residual.result c.from_residual.ensures.1 in
    elim (errors (is_refused c.self.inside.state c.args.input) c.step.result c.in_err-outcome.field-0.0 (IsCounted c.self.inside.state) c.in_err-outcome.was (λ r. (c.step.ensures.refused r).0) c.step.ensures.err) [
      | inl unfit ↦ subst (λ (v : ExecutorView). IsTrue (is_refused v.state c.args.input)) c.self.view_is unfit.1
      | inr other ↦ elim other [
        | inl memory ↦ absurd (cc (h, p.1, p.2, memory))
        | inr stopped ↦ absurd (cc (h, p.1, p.2, stopped.0))
      ]
    ]

pub returns-in_err-outcome-clause-only : goal.returns-in_err-outcome-clause-only
returns-in_err-outcome-clause-only g c =
    let p = err_from_is_err_and c.from_residual.result c.from_residual.ensures.1 in
    rw (p.1, p.2) (elim (errors (is_refused c.self.inside.state c.args.input) c.step.result c.in_err-outcome.field-0.0 (IsCounted c.self.inside.state) c.in_err-outcome.was (λ r. (c.step.ensures.refused r).0) c.step.ensures.err) [
      | inl unfit ↦ inr (inr unfit.0)
      | inr other ↦ elim other [ inl memory ↦ inl memory | inr stopped ↦ inr (inl stopped.0) ]
    ])

pub returns-in_err-letters-clause-fits_none : goal.returns-in_err-letters-clause-fits_none
returns-in_err-letters-clause-fits_none g c unfit other =
    let unsaved = unfit_unsaved c.self.inside.u c.self.inside.id c.self.inside.state c.args.input _ c.in_ok-outcome.ensures.done
    (subst (λ (v : ExecutorView). IsTrue (not (fits_a_line v.u v.id v.state c.args.input))) (sym c.self.view_is) unfit) in
    absurd (no_error c.keep.result c.in_err-letters.field-0.0 c.in_err-letters.was (c.keep.ensures.unsaved unsaved))
