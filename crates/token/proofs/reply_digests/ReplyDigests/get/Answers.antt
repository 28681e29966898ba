use Rattle.std.proofs.Common.{sym, ◌∙◌}
use Rattle.base.proofs.MapLemmas.{get_of}
use Rattle.token.proofs.reply_digests.ReplyDigests.get.Goals as goal

pub returns : goal.returns
returns c = rw c.deref.ensures at c.get.ensures ∙ sym (get_of _ _ c.args.client c.self.view_is c.self.invariant)
