use Rattle.std.proofs.Common.{sym, ap, ◌∙◌, subst}
use Rattle.pages.specs.Joined.{ArePages, joined_pages}
use Rattle.pages.proofs.JoinedLemmas.{joined-empty}
use Rattle.pages.proofs.own_pages.OwnPages.new.Goals as goal

pub invariant_of-result : goal.invariant_of-result
invariant_of-result c = subst ArePages (sym c.in_ok-pages.ensures) joined-empty.0

pub returns : goal.returns
returns c = ap joined_pages c.in_ok-pages.ensures ∙ joined-empty.1
