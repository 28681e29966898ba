use Rattle.std.proofs.Common.{[], ap, ◌∙◌}
use Rattle.item_tree.specs.Text.{path_entries}
use Rattle.item_tree.proofs.store.ItemTree.entries.Goals as goal

pub returns : goal.returns
returns c = c.in_ok-walk.ensures.shown [] c.new-entries.ensures.items ∙ c.walk.ensures.order ∙ ap path_entries c.self.view_is
