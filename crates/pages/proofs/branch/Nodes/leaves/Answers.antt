use Rattle.std.proofs.Common.{◌≤◌, length, drop, ◌∙◌, arith}
use Rattle.std.proofs.lemmas.List.{take_all, length-drop}
use Rattle.pages.proofs.branch.Nodes.leaves.Goals as goal

pub returns : goal.returns
returns c =
    let nodes = c.self.inside.nodes in
    let whole : length (drop 16 c.self.inside.nodes) ≤ 16 = omega (arith, length-drop 16 nodes, c.self.invariant.count) in
    c.copy_from_slice.ensures.after ∙ take_all 16 (drop 16 nodes) whole ∙ c.self.view_is
