use Rattle.std.proofs.Common.{take}
use Rattle.std.specs.FinMap.{from_entries}
use Rattle.token.specs.Told.{AreDigestsOf}
use Rattle.token.proofs.reply_digests.keep_all.Given as goal

-- those so far are kept
abbrev pub invariant-loop-entry : goal.invariant-loop-entry
invariant-loop-entry l = AreDigestsOf (from_entries (take l.entry-index l.entries)) l.digests
