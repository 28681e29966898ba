use Rattle.std.proofs.Common.{sym, subst}
use Rattle.ensemble.specs.Nodes.{AreNumbered}
use Rattle.ensemble.proofs.First.{first_numbered}
use Rattle.member.proofs.opening.unopened_nodes.Goals as goal

pub invariant_of-result : goal.invariant_of-result
invariant_of-result c = (c.u-u.ensures.few, subst AreNumbered (sym c.in_ok-proxies.ensures) (first_numbered c.clients.result))
