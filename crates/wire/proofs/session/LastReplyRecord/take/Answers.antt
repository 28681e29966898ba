use Rattle.std.proofs.Common.{arith, refl}
use Rattle.std.proofs.lemmas.Result.{err_from_is_err_and}
use Rattle.sessions.specs.Limits.{KeptFits}
use Rattle.wire.specs.Session.{kept_text}
use Rattle.wire.specs.SessionLaws.{kept_prefix_free}
use Rattle.wire.proofs.Rows.{no_row, unfit}
use Rattle.wire.proofs.session.LastReplyRecord.take.Goals as goal

pub returns-in_err-row : goal.returns-in_err-row
returns-in_err-row c =
    let p = err_from_is_err_and c.from_residual.result c.from_residual.ensures.1 in
    rw (p.1, p.2) (no_row KeptFits kept_text _ _ (λ kept. (kept.number, kept.reply)) c.args.bytes.now
    (λ kept f. (tt, tt)) (λ kept. refl) c.in_err-row.field-0.0 c.in_err-row.ensures)

pub returns-then-kept-eq0 : goal.returns-then-kept-eq0
returns-then-kept-eq0 c =
    unfit KeptFits kept_prefix_free c.args.bytes.now (record { number = c.in_ok-row.row.0; reply = c.in_ok-row.row.1 }) c.in_ok-row.rest.now c.in_ok-row.ensures.1
    (λ f. omega (arith, f.number))
