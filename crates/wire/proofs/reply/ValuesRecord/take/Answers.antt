use Rattle.std.proofs.Common.{rules, arith, ◌≡◌, ◌≤◌, length}
use Rattle.std.proofs.lemmas.Result.{err_from_is_err_and}
use Rattle.proto.specs.declared.key.TheConstants.{MOST_KEYS}
use Rattle.wire.specs.Record.{Always}
use Rattle.wire.specs.ReplyLaws.{values_text-is}
use Rattle.wire.proofs.Texts.{no_values, too_many_values}
use Rattle.wire.proofs.reply.ValuesRecord.take.Goals as goal

pub returns-in_err-listed : goal.returns-in_err-listed
returns-in_err-listed c =
    let p = err_from_is_err_and c.from_residual.result c.from_residual.ensures.1 in
    rw (p.1, p.2) (no_values Always c.args.bytes.now (λ i. omega (arith, c.type_inv.bytes i)) (λ n. tt) c.in_err-listed.field-0.0 c.in_err-listed.ensures)

pub returns-then-len-gt-MOST_KEYS : goal.returns-then-len-gt-MOST_KEYS
returns-then-len-gt-MOST_KEYS c =
    let many : 65 ≤ length c.in_ok-listed.listed = search rules in
    too_many_values c.args.bytes.now c.in_ok-listed.rest.now c.in_ok-listed.listed (λ i. omega (arith, c.type_inv.bytes i)) c.in_ok-listed.ensures.1 (omega arith)

pub returns : goal.returns
returns c =
    let few : length c.in_ok-listed.listed ≤ MOST_KEYS = search rules in
    let values : c.new.result ≡ c.in_ok-listed.listed = search rules in
    (tt, rw (values, values_text-is c.in_ok-listed.listed few) c.in_ok-listed.ensures.1)
