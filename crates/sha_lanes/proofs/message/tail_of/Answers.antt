use Rattle.std.proofs.Common.{◌*◌, length, ap, refl, sym, ◌∙◌, arith}
use Rattle.std.proofs.lemmas.List.{take_rest}
use Rattle.sha_lanes.proofs.Blocks.{tail_filled}
use Rattle.sha_lanes.proofs.message.tail_of.Goals as goal

pub returns : goal.returns
returns c =
    let text = c.args.text.now in
    let rest = c.copy_from_slice.ensures.after ∙ take_rest text (64 * c.args.whole) in
    tail_filled text _ _ _ c.args.whole _ _ _ _ c.requires.low c.requires.high rest (ap length (sym c.copy_from_slice.ensures.after)) refl
    refl (omega (arith, c.block_count.ensures)) (c.copy_from_slice-2.ensures.after ∙ c.to_be_bytes.ensures)
