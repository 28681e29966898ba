use Rattle.std.proofs.Common.{ap, ◌∙◌}
use Rattle.std.specs.FinMap.{from_entries}
use Rattle.item_tree.specs.TextLaws.{paths_make}
use Rattle.item_tree.proofs.store.ItemTree.to_plain.Goals as goal

pub returns : goal.returns
returns c = c.in_ok-copy_into.ensures ∙ ap from_entries (c.as_slice.ensures.value ∙ c.in_ok-entries.ensures) ∙ paths_make c.args.self.now
