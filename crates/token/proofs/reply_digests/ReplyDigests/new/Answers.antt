use Rattle.std.proofs.Common.{sym, ap, subst, ◌∙◌}
use Rattle.std.specs.FinMap.{from_sorted, empty}
use Rattle.base.proofs.MapLemmas.{empty_list}
use Rattle.token.specs.Told.{AreDigestsOf}
use Rattle.token.proofs.DigestLemmas.{none_of_none}
use Rattle.token.proofs.reply_digests.ReplyDigests.new.Goals as goal

pub returns : goal.returns
returns c = subst (AreDigestsOf empty) (sym (ap from_sorted (c.in_ok-new.ensures.ok ∙ c.new.ensures) ∙ empty_list)) none_of_none
