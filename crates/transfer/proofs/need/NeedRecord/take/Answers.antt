use Rattle.std.proofs.Common.{refl, arith, rules}
use Rattle.std.proofs.lemmas.Result.{err_from_is_err_and}
use Rattle.wire.proofs.Rows.{no_row, unfit}
use Rattle.transfer.specs.Need.{need_text, IsNeed}
use Rattle.transfer.specs.NeedProofs.{need_prefix_free}
use Rattle.transfer.proofs.need.NeedRecord.take.Goals as goal

pub returns-in_err-number : goal.returns-in_err-number
returns-in_err-number c =
    let p = err_from_is_err_and c.from_residual.result c.from_residual.ensures.1 in
    rw (p.1, p.2) (no_row IsNeed need_text _ _ (λ q. (q.number, q.digests)) c.args.bytes.now
    (λ q f. (tt, record { count = omega (arith, f.few); each = λ k d lt. tt })) (λ q. refl) c.in_err-number.field-0.0 c.in_err-number.ensures)

pub returns-in-None : goal.returns-in-None
returns-in-None c =
    unfit IsNeed need_prefix_free c.args.bytes.now (record { number = c.in_ok-number.number; digests = c.in_ok-number.listed }) c.in_ok-number.rest.now c.in_ok-number.ensures.1
    (λ f. search rules)
