use Rattle.std.proofs.Common.{sym, ◌∙◌, ap}
use Rattle.std.specs.Arc.{arc_value}
use Rattle.std.specs.Ordering.{nat_cmp}
use Rattle.std.specs.FinMap.{find}
use Rattle.token.proofs.DigestLemmas.{none_found, without_none}
use Rattle.token.proofs.reply_digests.drop_digest.Goals as goal

pub returns-else-is_some-clause-ok : goal.returns-else-is_some-clause-ok
returns-else-is_some-clause-ok c =
    sym (without_none c.args.client (arc_value c.args.digests.now)
    (none_found c.get.result _ (sym c.is_some.ensures ∙ c.if-is_some.false) (c.get.ensures ∙ ap (find nat_cmp c.args.client) c.deref.ensures)))
