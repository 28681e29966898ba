use Rattle.token.proofs.DigestLemmas.{of_entries}
use Rattle.token.proofs.reply_digests.ReplyDigests.of.Goals as goal

pub returns : goal.returns
returns c = of_entries c.args.sessions.now c.entries.result.now _ c.entries.ensures.entries c.in_ok-keep_all.ensures
