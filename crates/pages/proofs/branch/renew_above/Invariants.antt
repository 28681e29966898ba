use Rattle.pages.proofs.NodeLemmas.{IsRenewed}
use Rattle.pages.proofs.branch.renew_above.Given as goal

-- the inner nodes from this one on are renewed
abbrev pub invariant-loop-node : goal.invariant-loop-node
invariant-loop-node l = IsRenewed l.fn.nodes l.nodes l.changed l.node
