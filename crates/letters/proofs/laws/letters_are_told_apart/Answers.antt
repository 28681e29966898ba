use Rattle.wire.proofs.Values.{told_apart}
use Rattle.letters.proofs.LetterLemmas.{letter_prefix_free, read_back}
use Rattle.letters.proofs.laws.letters_are_told_apart.Goals as goal

pub returns-clause-one : goal.returns-clause-one
returns-clause-one c = told_apart letter_prefix_free

pub returns-clause-whole : goal.returns-clause-whole
returns-clause-whole c = letter_prefix_free

pub returns-clause-again : goal.returns-clause-again
returns-clause-again c = read_back
