use Rattle.std.proofs.Common.{sym, ap, ◌∙◌}
use Rattle.pages.specs.Tree.{branch_root}
use Rattle.pages.proofs.NodeLemmas.{root-of_nodes}
use Rattle.pages.proofs.branch.Nodes.root.Goals as goal

pub returns : goal.returns
returns c = sym (root-of_nodes c.self.inside.nodes c.self.invariant) ∙ ap branch_root c.self.view_is
