use Rattle.std.proofs.Common.{◌++◌, length}
use Rattle.seals.specs.Taking.{IsTaking}
use Rattle.seals.proofs.opener.take_all.Given as goal

abbrev pub invariant-loop-unread : goal.invariant-loop-unread
invariant-loop-unread l = IsTaking l.key l.fn.coming.number (l.fn.coming.bytes.items ++ l.bytes) l.fn.pieces.items l.pieces.items l.coming.number l.coming.bytes.items l.unread

abbrev pub decreases-loop-unread : goal.decreases-loop-unread
decreases-loop-unread l = length l.unread
