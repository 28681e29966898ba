use Rattle.std.proofs.Common.{◌++◌}
use Rattle.seals.proofs.TakingLemmas.{frame_taken}
use Rattle.seals.proofs.opener.take_all.Goals as goal

pub loop-unread-preserved-in-Continue-branch-2 : goal.loop-unread-preserved-in-Continue-branch-2
loop-unread-preserved-in-Continue-branch-2 c =
    let coming = c.args.coming.now in
    let loop = c.loop-unread in
    rw (c.in_ok-push.ensures.items, c.split_at.ensures.back)
    (frame_taken c.args.key.now coming.number (coming.bytes.items ++ c.args.bytes.now) c.args.pieces.now.items loop.pieces.items loop.coming.number loop.coming.bytes.items loop.unread.now loop.invariant
    c.in-Some.piece c.in_ok-piece.n c.step.new.self.number c.step.new.self.bytes.items (rw c.in-Some.is at c.in_ok-piece.ensures.ok))
