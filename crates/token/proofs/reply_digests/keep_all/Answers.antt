use Rattle.std.proofs.Common.{take, sym, subst}
use Rattle.std.specs.FinMap.{from_entries}
use Rattle.sessions.specs.Fresh.{Replies}
use Rattle.token.specs.Told.{AreDigestsOf}
use Rattle.token.proofs.DigestLemmas.{one_more}
use Rattle.token.proofs.reply_digests.keep_all.Goals as goal

pub loop-entry-preserved : goal.loop-entry-preserved
loop-entry-preserved c =
    let kept = c.in_ok-keep.ensures.ok (from_entries (take c.loop-entry.entry-index c.args.entries.now)) c.loop-entry.invariant in
    subst (λ (m : Replies). AreDigestsOf m c.keep.new.self)
    (sym (one_more c.args.entries.now c.loop-entry.entry-index c.entry-item.result c.requires.sorted c.loop-entry-test.true c.entry-item.is))
    (rw (c.key.ensures, c.value.ensures) at kept)
