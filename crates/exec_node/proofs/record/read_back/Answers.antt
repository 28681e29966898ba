use Rattle.std.proofs.Common.{◌≡◌, List, ℕ, sym, ◌∙◌, subst}
use Rattle.std.proofs.lemmas.Result.{err_from_is_err_and}
use Rattle.std.specs.Prelude.{IfErr}
use Rattle.wire.specs.Record.{Refused}
use Rattle.exec_lines.specs.State.{ExecutorState}
use Rattle.exec_node.specs.Record.{IsReadRecord}
use Rattle.exec_node.proofs.record.read_back.Goals as goal

pub returns-clause-err : goal.returns-clause-err
returns-clause-err c =
    let same : c.deref.result.now ≡ c.args.found.now = c.deref.ensures.value ∙ c.in_ok-bytes.ensures ∙ c.in_ok-text.ensures in
    subst (λ (bytes : List ℕ). IfErr c.restore.result (λ fault. Refused fault ((s : ExecutorState) → IsReadRecord c.args.u c.args.id bytes s → ⊥))) same c.restore.ensures.err

pub returns-in_err-resume-clause-err : goal.returns-in_err-resume-clause-err
returns-in_err-resume-clause-err c =
    let p = err_from_is_err_and c.from_residual.result c.from_residual.ensures.1 in
    let refused = subst (λ (bytes : List ℕ). Refused c.in_err-resume.field-0.0 ((s : ExecutorState) → IsReadRecord c.args.u c.args.id bytes s → ⊥)) (sym c.in-Some.ensures) c.in_err-resume.ensures.err in
    rw (p.1, p.2) refused
