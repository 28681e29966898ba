use Rattle.wire.specs.ItemLaws.{page_prefix_free}
use Rattle.wire.proofs.Values.{told_apart}
use Rattle.wire.proofs.laws.pages_are_told_apart.Goals as goal

pub returns-clause-one : goal.returns-clause-one
returns-clause-one c = told_apart page_prefix_free

pub returns-clause-whole : goal.returns-clause-whole
returns-clause-whole c = page_prefix_free
