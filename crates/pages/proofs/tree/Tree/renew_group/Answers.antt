use Rattle.std.proofs.Common.{List, ℕ, [], get_or, length, ap, ◌∙◌}
use Rattle.pages.specs.Group.{page_in_group}
use Rattle.pages.proofs.TreeLemmas.{renewed-are, renewed-count, renewed-own, renewed-others}
use Rattle.pages.proofs.tree.Tree.renew_group.Goals as goal

pub invariant_of-self-2 : goal.invariant_of-self-2
invariant_of-self-2 c =
    renewed-are c.self.inside.branches.items c.self.inside.top c.renew.new.self c.args.group c.self.inside.is_right c.self.invariant (ap length c.in_ok-renew.ensures.ok ∙ c.told-digests)

pub returns-clause-count : goal.returns-clause-count
returns-clause-count c =
    renewed-count c.self.inside.branches.items c.self.inside.top c.renew.new.self c.args.group c.self.inside.is_right c.self.invariant (ap length c.in_ok-renew.ensures.ok ∙ c.told-digests)

pub returns-clause-own : goal.returns-clause-own
returns-clause-own c i l =
    renewed-own c.self.inside.branches.items c.self.inside.top c.renew.new.self c.args.group c.self.inside.is_right c.self.invariant (ap length c.in_ok-renew.ensures.ok ∙ c.told-digests) i c.requires l
    ∙ ap (λ (ds : List (List ℕ)). get_or ds i []) c.in_ok-renew.ensures.ok

pub returns-clause-others : goal.returns-clause-others
returns-clause-others c g i other l =
    renewed-others c.self.inside.branches.items c.self.inside.top c.renew.new.self c.args.group c.self.inside.is_right c.self.invariant (ap length c.in_ok-renew.ensures.ok ∙ c.told-digests) g i other l
    ∙ ap (λ (ds : List (List ℕ)). get_or ds (page_in_group g i) []) c.self.view_is
