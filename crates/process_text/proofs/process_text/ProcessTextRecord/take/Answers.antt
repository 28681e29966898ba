use Rattle.std.proofs.lemmas.Result.{err_from_is_err_and}
use Rattle.process_text.proofs.TextLemmas.{no_version, no_kind}
use Rattle.process_text.proofs.process_text.ProcessTextRecord.take.Goals as goal

pub returns-in_err-rest : goal.returns-in_err-rest
returns-in_err-rest c =
    let p = err_from_is_err_and c.from_residual.result c.from_residual.ensures.1 in
    let none = c.in_err-rest.ensures.err in
    rw (p.1, p.2, none.0) (no_version c.args.bytes.now none.1)

pub returns-in_err-rest-2 : goal.returns-in_err-rest-2
returns-in_err-rest-2 c =
    let p = err_from_is_err_and c.from_residual-in_err-rest-2.result c.from_residual-in_err-rest-2.ensures.1 in
    let none = c.in_err-rest-2.ensures.err in
    rw (p.1, p.2, none.0) (no_kind c.args.bytes.now c.in_ok-rest.rest.now c.in_ok-rest.ensures.ok none.1)
