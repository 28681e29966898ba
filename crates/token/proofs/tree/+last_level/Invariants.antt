use Rattle.token.proofs.tree.+last_level.Given as goal

abbrev pub decreases-last_level : goal.decreases-last_level
decreases-last_level l = l.height
