use Rattle.pages.proofs.NodeLemmas.{AreSet}
use Rattle.pages.proofs.branch.set_leaves.Given as goal

-- the leaves before this place are set
abbrev pub invariant-loop-place : goal.invariant-loop-place
invariant-loop-place l = AreSet l.fn.nodes l.digests l.nodes l.changed l.place
