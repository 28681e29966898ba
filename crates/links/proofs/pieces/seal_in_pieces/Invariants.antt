use Rattle.std.proofs.Common.{length}
use Rattle.links.specs.Pieces.{IsSealing}
use Rattle.links.proofs.pieces.seal_in_pieces.Given as goal

abbrev pub invariant-loop-left : goal.invariant-loop-left
invariant-loop-left l = IsSealing l.fn.sealer l.bytes l.fn.sealed.items l.sealed.items l.sealer l.left

abbrev pub decreases-loop-left : goal.decreases-loop-left
decreases-loop-left l = length l.left
