use Rattle.std.proofs.Common.{◌+◌, List, ℕ, sym, ◌∙◌, subst}
use Rattle.pages.proofs.TreeLemmas.{AreMade, made-none, made-next}
use Rattle.pages.proofs.tree.branches_over.Goals as goal

pub loop-group-init : goal.loop-group-init
loop-group-init c = subst (λ (branches : List (List (List ℕ))). AreMade c.args.digests.now branches 0) (sym c.in_ok-branches.ensures.items) (made-none c.args.digests.now)

pub loop-group-preserved : goal.loop-group-preserved
loop-group-preserved c =
    subst (λ (branches : List (List (List ℕ))). AreMade c.args.digests.now branches (c.loop-group.group + 1)) (sym c.in_ok-push.ensures.items)
    (made-next c.args.digests.now c.loop-group.branches.items c.loop-group.group c.in_ok-new.field-0 c.loop-group.invariant c.loop-group-test.true c.told-digests
    (c.in_ok-new.ensures ∙ c.of_group.ensures))
