use Rattle.std.proofs.Common.{◌≡◌, map, take}
use Rattle.shelf.specs.Rows.{reply_row}
use Rattle.shelf.proofs.reply.replies_in.Given as goal

abbrev pub invariant-loop-row : goal.invariant-loop-row
invariant-loop-row l = take l.row-index l.rows ≡ map reply_row l.replies.items
