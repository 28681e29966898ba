use Rattle.std.proofs.Common.{◌∙◌}
use Rattle.pages.proofs.tree.Tree.new.Goals as goal

pub invariant_of-result : goal.invariant_of-result
invariant_of-result c = record { count = c.in_ok-branches.ensures.count; each = c.in_ok-branches.ensures.long; over = λ _. c.new-top.ensures ∙ c.roots_of.ensures }
