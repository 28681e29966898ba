use Rattle.std.proofs.lemmas.Result.{IfOk-weaker}
use Rattle.item_tree.proofs.DifferLemmas.{of_trees}
use Rattle.item_tree.proofs.store.ItemTree.differences.Goals as goal

pub returns : goal.returns
returns c =
    IfOk-weaker c.differences.result _ _ (λ found x.
    of_trees c.args.front c.self.inside.items c.newer.inside.items found.0.items found.1.items c.args.self.now c.args.newer.now c.self.view_is c.newer.view_is c.differences.ensures.order c.differences.ensures.newer_order x) c.differences.ensures.found
