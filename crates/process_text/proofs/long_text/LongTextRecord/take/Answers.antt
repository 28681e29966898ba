use Rattle.std.proofs.lemmas.Result.{err_from_is_err_and}
use Rattle.process_text.proofs.TextLemmas.{long_cut_off}
use Rattle.process_text.proofs.long_text.LongTextRecord.take.Goals as goal

pub returns-in_err-own : goal.returns-in_err-own
returns-in_err-own c =
    let p = err_from_is_err_and c.from_residual-in_err-own.result c.from_residual-in_err-own.ensures.1 in
    let short = c.in_err-own.ensures.err in
    rw (p.1, p.2, short.0) (long_cut_off c.in_ok-size.size c.args.bytes.now c.in_ok-size.rest.now c.in_ok-size.ensures.1 short.1)
