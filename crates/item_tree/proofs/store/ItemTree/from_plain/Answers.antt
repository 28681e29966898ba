use Rattle.std.proofs.Common.{◌≡◌, ap, ◌∙◌, subst}
use Rattle.std.specs.Prelude.{IfOk}
use Rattle.std.specs.FinMap.{from_entries}
use Rattle.items.specs.Map.{Items}
use Rattle.item_tree.proofs.TextLemmas.{entries_make}
use Rattle.item_tree.proofs.store.ItemTree.from_plain.Goals as goal

pub returns : goal.returns
returns c = subst (λ (m : Items). IfOk c.of_entries.result (λ store. store ≡ m)) (ap from_entries c.as_slice.ensures ∙ entries_make c.args.plain.now) c.of_entries.ensures
