use Rattle.std.proofs.Common.{◌≡◌, ◌≤◌, ◌++◌, ℕ, List, length, take, ap, ◌∙◌, arith}
use Rattle.std.proofs.lemmas.List.{length-take}
use Rattle.seals.specs.declared.frame.TheConstants.{MOST_PIECE_BYTES}
use Rattle.seals.specs.Frame.{frame}
use Rattle.links.proofs.PieceLemmas.{one_sealed}
use Rattle.links.proofs.pieces.seal_in_pieces.Goals as goal

pub loop-left-preserved : goal.loop-left-preserved
loop-left-preserved c =
    let loop = c.loop-left in
    let piece : List ℕ = take c.min.result loop.left.now in
    let bytes : c.extend_from_slice.new.self.items ≡ loop.sealed.items ++ frame loop.sealer.key loop.sealer.number piece =
    c.in_ok-extend_from_slice.ensures.items
    ∙ ap (λ xs. loop.sealed.items ++ xs) (c.as_slice.ensures.value ∙ (c.in_ok-frame.ensures.ok ∙ ap (frame loop.sealer.key loop.sealer.number) c.split_at.ensures.front)) in
    let short : length piece ≤ MOST_PIECE_BYTES = omega (arith, length-take c.min.result loop.left.now, c.min.ensures) in
    rw (bytes, c.split_at.ensures.back)
    (one_sealed c.args.sealer.now c.args.bytes.now c.args.sealed.now.items loop.sealed.items loop.sealer loop.left.now c.min.result c.seal.new.self loop.invariant short c.in_ok-frame.ensures.next)
