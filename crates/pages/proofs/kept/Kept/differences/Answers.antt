use Rattle.std.proofs.Common.{sym, ap}
use Rattle.std.proofs.lemmas.Result.{IfOk-weaker}
use Rattle.pages.specs.Kept.{items_kept, layout_kept}
use Rattle.pages.proofs.DifferLemmas.{moved_pages, trees_differ, none_differ, all_differ}
use Rattle.pages.proofs.kept.Kept.differences.Goals as goal

pub returns-in-Tree-Tree : goal.returns-in-Tree-Tree
returns-in-Tree-Tree c =
    IfOk-weaker c.differences.result _ _ (λ found x.
    moved_pages c.args.front _ _ _ _ _ _ _ _ found.0.items found.1.items (sym (ap layout_kept c.in-Tree-Tree.is-0)) (sym (ap items_kept c.in-Tree-Tree.is-0)) (sym (ap layout_kept c.in-Tree-Tree.is-1)) (sym (ap items_kept c.in-Tree-Tree.is-1))
    (trees_differ c.args.front c.in-Tree-Tree.old c.in-Tree-Tree.new found.0.items found.1.items x)) c.differences.ensures

pub returns-in-Sorted-Sorted : goal.returns-in-Sorted-Sorted
returns-in-Sorted-Sorted c =
    moved_pages c.args.front _ _ _ _ _ _ _ _ c.new.result.items c.new-in-Sorted-Sorted.result.items (sym (ap layout_kept c.in-Sorted-Sorted.is-0)) (sym (ap items_kept c.in-Sorted-Sorted.is-0)) (sym (ap layout_kept c.in-Sorted-Sorted.is-1)) (sym (ap items_kept c.in-Sorted-Sorted.is-1))
    (none_differ c.args.front c.in-Sorted-Sorted.old c.in-Sorted-Sorted.new c.new.result.items c.new-in-Sorted-Sorted.result.items c.new.ensures.items c.new-in-Sorted-Sorted.ensures.items (c.have_one_digest.ensures c.if-have_one_digest.true))

pub returns-in_ok-in_path_order-in_default-2 : goal.returns-in_ok-in_path_order-in_default-2
returns-in_ok-in_path_order-in_default-2 c =
    all_differ c.args.front (layout_kept c.args.self.now) (layout_kept c.args.newer.now) (items_kept c.args.self.now) (items_kept c.args.newer.now) c.in_ok-in_path_order-in_default.field-0.items c.in_ok-in_path_order-in_default-2.field-0.items
    c.in_ok-in_path_order-in_default.ensures c.in_ok-in_path_order-in_default-2.ensures
