use Rattle.pages.proofs.TreeLemmas.{AreMade}
use Rattle.pages.proofs.tree.branches_over.Given as goal

-- the branches of the groups so far are made
abbrev pub invariant-loop-group : goal.invariant-loop-group
invariant-loop-group l = AreMade l.digests l.branches.items l.group
