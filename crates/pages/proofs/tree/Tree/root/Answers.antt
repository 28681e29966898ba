use Rattle.std.proofs.Common.{◌≡◌, true, rules, sym, ap, ◌∙◌}
use Rattle.token.specs.declared.tree.TheConstants.{HEIGHT}
use Rattle.token.specs.Digest.{root_of}
use Rattle.pages.specs.Tree.{branch_root}
use Rattle.pages.proofs.TreeLemmas.{root-of_branches}
use Rattle.pages.proofs.tree.Tree.root.Goals as goal

pub returns-then-self : goal.returns-then-self
returns-then-self c =
    let right : c.self.inside.is_right ≡ true = search rules in
    c.root.ensures ∙ ap branch_root (c.self.invariant.over right) ∙ sym (root-of_branches c.self.inside.branches.items c.self.invariant.each) ∙ ap (root_of HEIGHT) c.self.view_is

pub returns-else-self : goal.returns-else-self
returns-else-self c =
    c.root-else-self.ensures ∙ ap branch_root (c.new.ensures ∙ c.roots_of.ensures) ∙ sym (root-of_branches c.self.inside.branches.items c.self.invariant.each) ∙ ap (root_of HEIGHT) c.self.view_is
