use Rattle.std.proofs.Common.{refl}
use Rattle.std.proofs.lemmas.Result.{err_from_is_err_and}
use Rattle.wire.proofs.Rows.{no_row}
use Rattle.decrees.specs.declared.standing.Standing.{Standing}
use Rattle.decrees.specs.Record.{standing_text}
use Rattle.decrees.proofs.record.StandingRecord.take.Goals as goal

pub returns-in_err-n : goal.returns-in_err-n
returns-in_err-n c =
    let p = err_from_is_err_and c.from_residual.result c.from_residual.ensures.1 in
    rw (p.1, p.2) (no_row (λ (st : Standing). Unit {0}) standing_text _ _ (λ st. (((st.n, st.token), st.epoch), st.start)) c.args.bytes.now
    (λ st f. (((tt, tt), tt), tt)) (λ st. refl) c.in_err-n.field-0.0 c.in_err-n.ensures)
