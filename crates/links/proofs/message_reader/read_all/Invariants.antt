use Rattle.std.proofs.Common.{◌++◌, length}
use Rattle.links.specs.Reading.{IsReadingMessages}
use Rattle.links.proofs.message_reader.read_all.Given as goal

abbrev pub invariant-loop-unread : goal.invariant-loop-unread
invariant-loop-unread l = IsReadingMessages l.most (l.fn.coming.items ++ l.bytes) l.fn.messages.items l.messages.items l.coming.items l.unread

abbrev pub decreases-loop-unread : goal.decreases-loop-unread
decreases-loop-unread l = length l.unread
