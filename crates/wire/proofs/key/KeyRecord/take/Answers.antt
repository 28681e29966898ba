use Rattle.std.proofs.Common.{rules, arith, ◌≡◌, ◌++◌, ◌∙◌, sym, ap, length, append_assoc, List, ℕ, false, true}
use Rattle.std.specs.Int.{w8}
use Rattle.std.proofs.lemmas.Result.{err_from_is_err_and}
use Rattle.proto.specs.Key.{is_key}
use Rattle.wire.specs.Number.{num}
use Rattle.wire.specs.KeyLaws.{key_text-is}
use Rattle.wire.proofs.Texts.{no_key_size, key_cut_off, not_a_key}
use Rattle.wire.proofs.key.KeyRecord.take.Goals as goal

pub returns-in_err-size : goal.returns-in_err-size
returns-in_err-size c =
    let p = err_from_is_err_and c.from_residual.result c.from_residual.ensures.1 in
    rw (p.1, p.2) (no_key_size (λ _. Unit {0}) c.args.bytes.now (λ i. omega (arith, c.type_inv.bytes i)) (λ n. tt) c.in_err-size.field-0.0 c.in_err-size.ensures)

pub returns-in_err-text : goal.returns-in_err-text
returns-in_err-text c =
    let p = err_from_is_err_and c.from_residual-in_err-text.result c.from_residual-in_err-text.ensures.1 in
    let short = c.in_err-text.ensures.err in
    rw (p.1, p.2, short.0) (key_cut_off c.in_ok-size.size c.args.bytes.now c.in_ok-size.rest.now (λ i. omega (arith, c.type_inv.bytes i)) c.in_ok-size.ensures.1 short.1)

pub returns-then-not-is_key_text : goal.returns-then-not-is_key_text
returns-then-not-is_key_text c =
    let text = c.in_ok-text.ensures.ok in
    let not : is_key c.in_ok-text.text.now ≡ false = search rules in
    not_a_key c.in_ok-size.size c.args.bytes.now c.in_ok-size.rest.now c.in_ok-text.text.now c.in_ok-text.rest.now (λ i. omega (arith, c.type_inv.bytes i)) c.in_ok-size.ensures.1 text.0 text.1 not

pub returns : goal.returns
returns c =
    let text = c.in_ok-text.ensures.ok in
    let valid : is_key c.in_ok-text.text.now ≡ true = search rules in
    let key : c.in_ok-key.key ≡ c.in_ok-text.text.now = search rules in
    let parts : c.args.bytes.now ≡ num w8 (length c.in_ok-text.text.now) ++ (c.in_ok-text.text.now ++ c.in_ok-text.rest.now) =
    c.in_ok-size.ensures.1 ∙ (ap (λ (t : List ℕ). num w8 c.in_ok-size.size ++ t) text.1 ∙ ap (λ (n : ℕ). num w8 n ++ (c.in_ok-text.text.now ++ c.in_ok-text.rest.now)) (sym text.0)) in
    (tt, rw (key, key_text-is c.in_ok-text.text.now valid) (parts ∙ sym (append_assoc (num w8 (length c.in_ok-text.text.now)) c.in_ok-text.text.now c.in_ok-text.rest.now)))
