use Rattle.std.specs.Arc.{arc_value}
use Rattle.token.proofs.DigestLemmas.{set_sorted, set_digests}
use Rattle.token.proofs.reply_digests.ReplyDigests.keep.Goals as goal

pub invariant_of-self : goal.invariant_of-self
invariant_of-self c =
    set_sorted c.set_digest.result (arc_value c.self.inside.digests) _ c.args.client c.long_digest.result c.self.invariant c.set_digest.ensures.ok c.set_digest.ensures.err

pub returns-clause-ok : goal.returns-clause-ok
returns-clause-ok c =
    set_digests c.set_digest.result (arc_value c.self.inside.digests) (arc_value c.set_digest.new.digests) c.args.client c.args.kept.now _ c.self.view_is c.self.invariant
    (rw c.long_digest.ensures at c.set_digest.ensures.ok)
