use Rattle.std.proofs.Common.{refl}
use Rattle.std.proofs.lemmas.Result.{err_from_is_err_and}
use Rattle.wire.specs.Token.{inner_text}
use Rattle.wire.proofs.Rows.{no_marked_row}
use Rattle.wire.proofs.token.InnerTextRecord.take.Goals as goal

pub returns-in_err-row : goal.returns-in_err-row
unfolding inner_text
returns-in_err-row c =
    let p = err_from_is_err_and c.from_residual-in_err-row.result c.from_residual-in_err-row.ensures.1 in
    rw (p.1, p.2) (no_marked_row (λ _. Unit {0}) inner_text _ _ (λ t. (t.left, t.right)) 1 c.args.bytes.now c.in_ok-rest.rest.now c.in_ok-rest.ensures.ok
    (λ t f. (tt, tt)) (λ t. refl) c.in_err-row.field-0.0 c.in_err-row.ensures)
