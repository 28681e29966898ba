use Rattle.std.proofs.Common.{take}
use Rattle.base.specs.Pieces.{bytes_of}
use Rattle.wire.specs.Record.{Puts}
use Rattle.wire.proofs.text.share_pieces.Given as goal

abbrev pub invariant-loop-piece : goal.invariant-loop-piece
invariant-loop-piece g l = Puts g.S.Sink.holds (bytes_of (take l.piece-index l.pieces)) l.fn.sink l.sink
