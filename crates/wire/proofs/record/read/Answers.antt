use Rattle.std.proofs.Common.{rules}
use Rattle.std.proofs.lemmas.Result.{err_from_is_err_and}
use Rattle.wire.proofs.Values.{none_whole, left_over}
use Rattle.wire.proofs.record.read.Goals as goal

pub returns-in_err-value : goal.returns-in_err-value
returns-in_err-value g c =
    let p = err_from_is_err_and c.from_residual.result c.from_residual.ensures.1 in
    rw (p.1, p.2) (none_whole g.T.Record.fits g.T.Record.encoding c.args.bytes.now c.in_err-value.field-0.0 c.in_err-value.ensures)

pub returns-else-is_empty : goal.returns-else-is_empty
returns-else-is_empty g c =
    λ v f e. left_over g.met.T.Record.prefix_free c.args.bytes.now c.in_ok-value.value c.in_ok-value.rest.now c.in_ok-value.ensures.1 (λ none. search (rules, none)) v e
