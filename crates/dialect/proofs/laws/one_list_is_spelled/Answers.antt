use Rattle.dialect.specs.State.{start, read_bytes}
use Rattle.dialect.proofs.SpellsLemmas.{run_is_spelled, spells_one}
use Rattle.dialect.proofs.laws.one_list_is_spelled.Goals as goal

pub returns-clause-some : goal.returns-clause-some
returns-clause-some c = λ bytes. ((read_bytes start bytes).turns, run_is_spelled bytes)

pub returns-clause-one : goal.returns-clause-one
returns-clause-one c = spells_one
