use Rattle.std.proofs.Common.{refl}
use Rattle.std.proofs.lemmas.Result.{err_from_is_err_and}
use Rattle.states.specs.declared.head.Head.{Head}
use Rattle.states.specs.StateRecord.{head_text}
use Rattle.wire.proofs.Rows.{no_row}
use Rattle.states.proofs.head.HeadRecord.take.Goals as goal

pub returns-in_err-origin : goal.returns-in_err-origin
unfolding head_text
returns-in_err-origin c =
    let p = err_from_is_err_and c.from_residual.result c.from_residual.ensures.1 in
    rw (p.1, p.2) (no_row (λ (h : Head). Unit {0}) head_text _ _ (λ h. (h.origin, h.token)) c.args.bytes.now
    (λ h f. (tt, tt)) (λ h. refl) c.in_err-origin.field-0.0 c.in_err-origin.ensures)
