use Rattle.std.proofs.Common.{◌++◌}
use Rattle.links.proofs.ReadingLemmas.{message_read}
use Rattle.links.proofs.message_reader.read_all.Goals as goal

pub loop-unread-preserved-in-Continue-branch-2 : goal.loop-unread-preserved-in-Continue-branch-2
loop-unread-preserved-in-Continue-branch-2 c =
    let coming = c.args.coming.now in
    let loop = c.loop-unread in
    rw (c.in_ok-push.ensures.items, c.split_at.ensures.back)
    (message_read c.args.most (coming.items ++ c.args.bytes.now) c.args.messages.now.items loop.messages.items loop.coming.items loop.unread.now loop.invariant
    c.in-Some.message c.in_ok-message.n c.step.new.coming.items (rw c.in-Some.is at c.in_ok-message.ensures.ok))
