use Rattle.std.proofs.lemmas.Result.{err_from_is_err_and}
use Rattle.decrees.proofs.RecordLemmas.{refused_decree, fits_all}
use Rattle.decrees.proofs.record.DecreeRecord.take.Goals as goal

pub returns-in_err-commit : goal.returns-in_err-commit
returns-in_err-commit c =
    let p = err_from_is_err_and c.from_residual.result c.from_residual.ensures.1 in
    rw (p.1, p.2) (refused_decree fits_all c.args.bytes.now c.in_err-commit.field-0.0 c.in_err-commit.ensures)
