use Rattle.dialect.proofs.ProfileLineLemmas.{line_agrees, block_agrees}
use Rattle.dialect.proofs.laws.a_line_of_the_profile_asks_the_same.Goals as goal

pub returns-clause-line : goal.returns-clause-line
returns-clause-line c = line_agrees

pub returns-clause-block : goal.returns-clause-block
returns-clause-block c = block_agrees
