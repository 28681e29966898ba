use Rattle.std.proofs.Common.{◌≡◌, take}
use Rattle.base.specs.Pieces.{bytes_of}
use Rattle.base.proofs.text.shared.Given as goal

abbrev pub invariant-loop-piece : goal.invariant-loop-piece
invariant-loop-piece l = bytes_of l.copies.items ≡ bytes_of (take l.piece-index l.piece-items)
