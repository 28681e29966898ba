use Rattle.std.proofs.Common.{refl}
use Rattle.std.proofs.lemmas.Result.{err_from_is_err_and}
use Rattle.wire.specs.Record.{Always}
use Rattle.wire.specs.Item.{item_text}
use Rattle.wire.proofs.Rows.{no_row, some_fits}
use Rattle.wire.proofs.item.ItemRecord.take.Goals as goal

pub returns-in_err-row : goal.returns-in_err-row
returns-in_err-row c =
    let p = err_from_is_err_and c.from_residual.result c.from_residual.ensures.1 in
    rw (p.1, p.2) (no_row Always item_text _ _ (λ item. (((item.flags, item.due), item.unique), item.block)) c.args.bytes.now
    (λ item f. (((tt, some_fits (λ n. tt) item.due), tt), f)) (λ item. refl) c.in_err-row.field-0.0 c.in_err-row.ensures)
