use Rattle.letters.proofs.BoundLemmas.{letters_bounded, short_kinds_quick}
use Rattle.letters.proofs.laws.letters_are_bounded.Goals as goal

pub returns-clause-bulk : goal.returns-clause-bulk
returns-clause-bulk c = letters_bounded

pub returns-clause-quick : goal.returns-clause-quick
returns-clause-quick c = short_kinds_quick
