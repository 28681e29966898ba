use Rattle.item_tree.proofs.ToldLemmas.{tells_items}
use Rattle.item_tree.proofs.laws.digests_tell_items.Goals as goal

pub returns : goal.returns
returns c = tells_items
