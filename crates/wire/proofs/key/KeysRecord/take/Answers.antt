use Rattle.std.proofs.Common.{rules, arith, ◌≡◌, ◌≤◌, length}
use Rattle.std.proofs.lemmas.Result.{err_from_is_err_and}
use Rattle.proto.specs.declared.key.TheConstants.{MOST_KEYS}
use Rattle.wire.specs.KeyLaws.{keys_text-is}
use Rattle.wire.proofs.Texts.{no_keys, not_so_many}
use Rattle.wire.proofs.key.KeysRecord.take.Goals as goal

pub returns-in_err-listed : goal.returns-in_err-listed
returns-in_err-listed c =
    let p = err_from_is_err_and c.from_residual.result c.from_residual.ensures.1 in
    rw (p.1, p.2) (no_keys (λ _. Unit {0}) c.args.bytes.now (λ i. omega (arith, c.type_inv.bytes i)) (λ n. tt) c.in_err-listed.field-0.0 c.in_err-listed.ensures)

pub returns-then-is_empty : goal.returns-then-is_empty
returns-then-is_empty c =
    let none : length c.in_ok-listed.listed ≡ 0 = search rules in
    not_so_many c.args.bytes.now c.in_ok-listed.rest.now c.in_ok-listed.listed (λ i. omega (arith, c.type_inv.bytes i)) c.in_ok-listed.ensures.1 (λ some few. omega arith)

pub returns-then-len-gt-MOST_KEYS : goal.returns-then-len-gt-MOST_KEYS
returns-then-len-gt-MOST_KEYS c =
    let many : 65 ≤ length c.in_ok-listed.listed = search rules in
    not_so_many c.args.bytes.now c.in_ok-listed.rest.now c.in_ok-listed.listed (λ i. omega (arith, c.type_inv.bytes i)) c.in_ok-listed.ensures.1 (λ some few. omega arith)

pub returns : goal.returns
returns c =
    let some : 1 ≤ length c.in_ok-listed.listed = search rules in
    let few : length c.in_ok-listed.listed ≤ MOST_KEYS = search rules in
    let keys : c.new.result ≡ c.in_ok-listed.listed = search rules in
    (tt, rw (keys, keys_text-is c.in_ok-listed.listed some few) c.in_ok-listed.ensures.1)
