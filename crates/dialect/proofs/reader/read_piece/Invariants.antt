use Rattle.std.proofs.Common.{length}
use Rattle.dialect.specs.Stage.{IsPartRead, stage_state}
use Rattle.dialect.proofs.reader.read_piece.Given as goal

abbrev pub invariant-loop-unread : goal.invariant-loop-unread
invariant-loop-unread l = IsPartRead (stage_state l.fn.stage) l.piece l.turns.items (stage_state l.stage) l.unread

abbrev pub decreases-loop-unread : goal.decreases-loop-unread
decreases-loop-unread l = length l.unread
