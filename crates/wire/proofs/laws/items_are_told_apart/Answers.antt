use Rattle.wire.specs.ItemLaws.{item_prefix_free}
use Rattle.wire.proofs.Values.{told_apart}
use Rattle.wire.proofs.laws.items_are_told_apart.Goals as goal

pub returns-clause-one : goal.returns-clause-one
returns-clause-one c = told_apart item_prefix_free

pub returns-clause-whole : goal.returns-clause-whole
returns-clause-whole c = item_prefix_free
