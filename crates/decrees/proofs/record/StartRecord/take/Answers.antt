use Rattle.std.proofs.Common.{refl}
use Rattle.std.proofs.lemmas.Result.{err_from_is_err_and}
use Rattle.wire.proofs.Rows.{no_row}
use Rattle.decrees.specs.declared.start.Start.{Start}
use Rattle.decrees.specs.Record.{start_text}
use Rattle.decrees.proofs.record.StartRecord.take.Goals as goal

pub returns-in_err-place : goal.returns-in_err-place
returns-in_err-place c =
    let p = err_from_is_err_and c.from_residual.result c.from_residual.ensures.1 in
    rw (p.1, p.2) (no_row (λ (start : Start). Unit {0}) start_text _ _ (λ start. (start.place, start.standing)) c.args.bytes.now
    (λ start f. (tt, tt)) (λ start. refl) c.in_err-place.field-0.0 c.in_err-place.ensures)
