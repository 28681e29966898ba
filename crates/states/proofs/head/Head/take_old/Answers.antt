use Rattle.std.proofs.Common.{refl}
use Rattle.std.proofs.lemmas.Result.{err_from_is_err_and}
use Rattle.wire.proofs.Rows.{no_row}
use Rattle.states.specs.StateRecord.{old_head_text}
use Rattle.states.specs.OldRecord.{IsOldHead}
use Rattle.states.proofs.head.Head.take_old.Goals as goal

pub returns-in_err-told : goal.returns-in_err-told
returns-in_err-told c =
    let p = err_from_is_err_and c.from_residual.result c.from_residual.ensures.1 in
    rw (p.1, p.2) (no_row IsOldHead old_head_text _ _ (λ h. (((((h.origin.number, h.origin.previous), h.origin.epoch), h.origin.batch), h.origin.moment), h.token)) c.args.bytes.now
    (λ h f. (((((tt, tt), tt), tt), tt), tt)) (λ h. refl) c.in_err-told.field-0.0 c.in_err-told.ensures)
