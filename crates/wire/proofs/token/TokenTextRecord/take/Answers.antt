use Rattle.std.proofs.Common.{refl}
use Rattle.std.proofs.lemmas.Result.{err_from_is_err_and}
use Rattle.wire.specs.Token.{token_text}
use Rattle.wire.proofs.Rows.{no_marked_row}
use Rattle.wire.proofs.token.TokenTextRecord.take.Goals as goal

pub returns-in_err-row : goal.returns-in_err-row
unfolding token_text
returns-in_err-row c =
    let p = err_from_is_err_and c.from_residual-in_err-row.result c.from_residual-in_err-row.ensures.1 in
    rw (p.1, p.2) (no_marked_row (λ _. Unit {0}) token_text _ _ (λ t. ((((((t.previous, t.n), t.epoch), t.moment), t.batch), t.root), t.sessions)) 2 c.args.bytes.now c.in_ok-rest.rest.now c.in_ok-rest.ensures.ok
    (λ t f. ((((((tt, tt), tt), tt), tt), tt), tt)) (λ t. refl) c.in_err-row.field-0.0 c.in_err-row.ensures)
