use Rattle.std.proofs.Common.{rules, arith, ◌≡◌, ◌≤◌, ◌++◌, ◌∙◌, sym, ap, length, append_assoc, List, ℕ}
use Rattle.std.specs.Int.{w32}
use Rattle.std.proofs.lemmas.Result.{err_from_is_err_and}
use Rattle.proto.specs.declared.block.TheConstants.{MOST_BLOCK_BYTES}
use Rattle.wire.specs.Record.{Always}
use Rattle.wire.specs.Number.{num}
use Rattle.wire.specs.BlockLaws.{block_text-is}
use Rattle.wire.proofs.Texts.{no_block_size, over_limit, cut_off}
use Rattle.wire.proofs.block.BlockRecord.take.Goals as goal

pub returns-in_err-size : goal.returns-in_err-size
returns-in_err-size c =
    let p = err_from_is_err_and c.from_residual.result c.from_residual.ensures.1 in
    rw (p.1, p.2) (no_block_size Always c.args.bytes.now (λ i. omega (arith, c.type_inv.bytes i)) (λ n. tt) c.in_err-size.field-0.0 c.in_err-size.ensures)

pub returns-then-size-gt-MOST_BLOCK_BYTES : goal.returns-then-size-gt-MOST_BLOCK_BYTES
returns-then-size-gt-MOST_BLOCK_BYTES c =
    over_limit c.in_ok-size.size c.args.bytes.now c.in_ok-size.rest.now (λ i. omega (arith, c.type_inv.bytes i)) c.in_ok-size.ensures.1 c.if-size-gt-MOST_BLOCK_BYTES.true

pub returns-in_err-text : goal.returns-in_err-text
returns-in_err-text c =
    let p = err_from_is_err_and c.from_residual-in_err-text.result c.from_residual-in_err-text.ensures.1 in
    let short = c.in_err-text.ensures.err in
    rw (p.1, p.2, short.0) (cut_off c.in_ok-size.size c.args.bytes.now c.in_ok-size.rest.now (λ i. omega (arith, c.type_inv.bytes i)) c.in_ok-size.ensures.1 short.1)

pub returns : goal.returns
returns c =
    let text = c.in_ok-text.ensures.ok in
    let few : length c.in_ok-text.text.now ≤ MOST_BLOCK_BYTES = search rules in
    let block : c.in_ok-from_slice.field-0 ≡ c.in_ok-text.text.now = search rules in
    let parts : c.args.bytes.now ≡ num w32 (length c.in_ok-text.text.now) ++ (c.in_ok-text.text.now ++ c.in_ok-text.rest.now) =
    c.in_ok-size.ensures.1 ∙ (ap (λ (t : List ℕ). num w32 c.in_ok-size.size ++ t) text.1 ∙ ap (λ (n : ℕ). num w32 n ++ (c.in_ok-text.text.now ++ c.in_ok-text.rest.now)) (sym text.0)) in
    (tt, rw (block, block_text-is c.in_ok-text.text.now few) (parts ∙ sym (append_assoc (num w32 (length c.in_ok-text.text.now)) c.in_ok-text.text.now c.in_ok-text.rest.now)))
