use Rattle.std.proofs.Common.{refl}
use Rattle.std.proofs.lemmas.Result.{err_from_is_err_and}
use Rattle.wire.proofs.Rows.{no_row}
use Rattle.states.specs.declared.origin.Origin.{Origin}
use Rattle.states.specs.Origin.{origin_text}
use Rattle.states.proofs.origin.OriginRecord.take.Goals as goal

pub returns-in_err-form : goal.returns-in_err-form
returns-in_err-form c =
    let p = err_from_is_err_and c.from_residual.result c.from_residual.ensures.1 in
    rw (p.1, p.2) (no_row (λ (o : Origin). Unit {0}) origin_text _ _ (λ o. (o.form, ((((o.number, o.previous), o.epoch), o.batch), o.moment))) c.args.bytes.now
    (λ o f. (tt, ((((tt, tt), tt), tt), tt))) (λ o. refl) c.in_err-form.field-0.0 c.in_err-form.ensures)
